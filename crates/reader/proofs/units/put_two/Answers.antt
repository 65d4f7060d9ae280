-- `reader::units::put_two` meets its contract.
-- Assumes nothing.
use Rattle.reader.proofs.units.Text.{two_puts}
use borrow.Author.Rules.{rules}
use Rattle.reader.proofs.units.put_two.Goals as goal

pub returns : goal.returns
returns c = search (two_puts, rules)
