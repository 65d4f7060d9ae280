-- `reader::saveobj::decode_string_saveobj` meets its contract.
-- Assumes nothing.
use Rattle.reader.proofs.saveobj.Payload.{at_origin, decode_values, decode_written}
use Rattle.reader.proofs.saveobj.decode_string_saveobj.Goals as goal

pub check_outputs-requires : goal.check_outputs-requires
check_outputs-requires c = decode_values _ c.in_ok-size.ensures

pub returns : goal.returns
returns c = decode_written _ _ _ c.in_ok-size.ensures c.in_ok-check_outputs.ensures (rw (at_origin c.default.ensures) at c.put_payload.ensures)
