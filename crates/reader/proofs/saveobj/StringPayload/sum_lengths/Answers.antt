-- `reader::saveobj::StringPayload::sum_lengths` meets its contract.
-- Assumes nothing.
use Rattle.reader.proofs.saveobj.Lengths.{sum_start, sum_stop, sum_turn, sum_last}
use borrow.Author.Rules.{rules}
use Rattle.reader.proofs.saveobj.StringPayload.sum_lengths.Goals as goal

pub loop-i-init : goal.loop-i-init
loop-i-init c = search (sum_start, rules)

pub returns-in_default : goal.returns-in_default
returns-in_default c = sum_stop _ _ _ c.loop-i.invariant c.loop-i-test.true c.unit_count.ensures c.in_default.ensures

pub loop-i-preserved : goal.loop-i-preserved
loop-i-preserved c = sum_turn _ _ _ c.loop-i.invariant c.loop-i-test.true c.unit_count.ensures c.in-Some.ensures

pub returns : goal.returns
returns c = search (sum_last, rules)
