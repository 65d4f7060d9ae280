-- `printing::lines::put_decimal` meets its contract.
-- Assumes nothing.
use Rattle.printing.proofs.lines.Laws.{print_start, print_turn, print_last}
use borrow.Author.Rules.{rules}
use Rattle.printing.proofs.lines.put_decimal.Goals as goal

pub loop-i-init : goal.loop-i-init
loop-i-init c = search (print_start, rules)

pub loop-i-preserved : goal.loop-i-preserved
loop-i-preserved c = search (print_turn, rules)

pub returns : goal.returns
returns c = search (print_last, rules)
