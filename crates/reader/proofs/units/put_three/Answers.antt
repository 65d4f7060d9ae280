-- `reader::units::put_three` meets its contract.
-- Assumes nothing.
use Rattle.reader.proofs.units.Text.{three_puts}
use borrow.Author.Rules.{rules}
use Rattle.reader.proofs.units.put_three.Goals as goal

pub returns : goal.returns
returns c = three_puts _ _ c.requires (search rules)
