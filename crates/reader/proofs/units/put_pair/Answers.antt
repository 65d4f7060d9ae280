-- `reader::units::put_pair` meets its contract.
-- Assumes nothing.
use Rattle.reader.proofs.units.Text.{pair_puts}
use Rattle.reader.proofs.units.put_pair.Goals as goal

pub returns : goal.returns
returns c = pair_puts _ _ _ c.requires (rw (c.from.ensures, c.from-2.ensures))
