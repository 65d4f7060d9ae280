-- `reader::saveobj::StringPayload::count_units` meets its contract.
-- Assumes nothing.
use Rattle.reader.proofs.saveobj.Payload.{units_counted}
use Rattle.reader.proofs.saveobj.StringPayload.count_units.Goals as goal

pub returns : goal.returns
returns c = units_counted _ _ _ c.in_ok-units.ensures c.if-self-units.false
