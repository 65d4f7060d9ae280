-- `reader::saveobj::StringPayload::measure` meets its contract: the outer loop goes by strings, the inner one by the units of one.
-- Assumes nothing.
use Rattle.reader.proofs.saveobj.Strings.{measure_start, string_end_lem, string_start, measures, string_last, measure_last}
use borrow.Author.Rules.{rules}
use Rattle.reader.proofs.saveobj.StringPayload.measure.Goals as goal

pub loop-i-init : goal.loop-i-init
loop-i-init c = search (measure_start, rules)

pub overflow_add-end : goal.overflow_add-end
overflow_add-end c = search (string_end_lem, rules)

pub loop-k-init : goal.loop-k-init
loop-k-init c = search (string_start, rules)

pub loop-k-preserved-then-unit-lt128 : goal.loop-k-preserved-then-unit-lt128
loop-k-preserved-then-unit-lt128 c = search (measures, rules)

pub loop-k-preserved-then-unit-lt2048 : goal.loop-k-preserved-then-unit-lt2048
loop-k-preserved-then-unit-lt2048 c = search (measures, rules)

pub loop-k-preserved-then-not-is_surrogate : goal.loop-k-preserved-then-not-is_surrogate
loop-k-preserved-then-not-is_surrogate c = search (measures, rules)

pub returns-then-k-end : goal.returns-then-k-end
returns-then-k-end c = search (measures, rules)

pub returns-then-not-is_pair : goal.returns-then-not-is_pair
returns-then-not-is_pair c = search (measures, rules)

pub loop-k-preserved : goal.loop-k-preserved
loop-k-preserved c = search (measures, rules)

pub loop-i-preserved : goal.loop-i-preserved
loop-i-preserved c = search (string_last, rules)

pub returns : goal.returns
returns c = search (measure_last, rules)
