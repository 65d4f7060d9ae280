-- `printing::lines::decimal_length` meets its contract.
-- Assumes nothing.
use borrow.Author.Rules.{rules}
use Rattle.printing.proofs.lines.Laws.{digits_of, digits_of_zero}
use Rattle.printing.proofs.lines.decimal_length.Goals as goal

pub returns-in-Some : goal.returns-in-Some
returns-in-Some c = search (digits_of, rules)

pub returns-in-None : goal.returns-in-None
returns-in-None c = search (digits_of_zero, rules)
