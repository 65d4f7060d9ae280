-- `text::utf16::text_length` meets its contract. The loop's measure is what is left of the units.
-- Assumes nothing.
use Rattle.text.proofs.utf16.Decode.{measure_size, step_less, measure_stop, measure_last}
use mathlib.Core.Path.{◌∙◌}
use native.Mathlib.Omega.{arith}
use borrow.Author.Rules.{rules}
use Rattle.text.proofs.utf16.text_length.Goals as goal

pub loop-i-smaller : goal.loop-i-smaller
loop-i-smaller c = search (step_less, rules)

pub loop-i-preserved : goal.loop-i-preserved
loop-i-preserved c = measure_size c.loop-i.invariant c.loop-i-test.true c.step_at.ensures c.in_ok-scalar.was c.utf8_size-bytes.ensures

pub returns-in_err-scalar : goal.returns-in_err-scalar
returns-in_err-scalar c =
    c.from_residual.ensures ∙ measure_stop c.loop-i.invariant c.loop-i-test.true c.step_at.ensures c.in_err-scalar.was

pub returns : goal.returns
returns c = search (measure_last, rules)

pub overflow_add-i : goal.overflow_add-i
overflow_add-i c = let r = loop-i-preserved c in omega arith
