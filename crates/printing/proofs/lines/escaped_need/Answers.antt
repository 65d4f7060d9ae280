-- `printing::lines::escaped_need` meets its contract.
-- Assumes nothing.
use Rattle.printing.proofs.lines.Laws.{measure_start, measure_turn, measure_last}
use borrow.Author.Rules.{rules}
use Rattle.printing.proofs.lines.escaped_need.Goals as goal

pub loop-byte-init : goal.loop-byte-init
loop-byte-init c = search (measure_start, rules)

pub loop-byte-preserved : goal.loop-byte-preserved
loop-byte-preserved c = search (measure_turn, rules)

pub returns : goal.returns
returns c = search (measure_last, rules)
