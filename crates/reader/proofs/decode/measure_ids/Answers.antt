-- `reader::decode::measure_ids` meets its contract.
-- Assumes nothing.
use mathlib.Core.Path.{◌∙◌}
use native.Mathlib.Omega.{arith}
use borrow.Author.Rules.{rules}
use Rattle.text.proofs.ReplyLaws.{handed_on}
use Rattle.reader.proofs.decode.Laws.{ids_start, ids_fit, ids_stop, ids_turn}
use Rattle.reader.proofs.decode.measure_ids.Goals as goal

pub loop-id-init : goal.loop-id-init
loop-id-init c = search (ids_start, rules)

pub returns-in_err-more : goal.returns-in_err-more
returns-in_err-more c =
    handed_on c.from_residual.result c.in_err-more.field-0.0 c.from_residual.ensures
    ∙ ids_stop _ _ _ _ c.loop-id.invariant c.loop-id-test.true c.in_err-more.ensures

pub overflow_add-bytes : goal.overflow_add-bytes
overflow_add-bytes c = omega (arith, ids_fit _ _ _ _ c.loop-id.invariant c.loop-id-test.true c.in_ok-more.ensures c.requires)

pub overflow_add-strings : goal.overflow_add-strings
overflow_add-strings c = omega (arith, ids_fit _ _ _ _ c.loop-id.invariant c.loop-id-test.true c.in_ok-more.ensures c.requires)

pub loop-id-preserved : goal.loop-id-preserved
loop-id-preserved c = ids_turn _ _ _ _ c.loop-id.invariant c.loop-id-test.true c.in_ok-more.ensures
