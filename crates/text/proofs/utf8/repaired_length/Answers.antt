-- `text::utf8::repaired_length` meets its contract: the laws of its loop answer each goal.
-- Assumes nothing.
use Rattle.text.proofs.utf8.Lossy.{measure_over, measure_last, measure_from, measure_ascii, measure_whole, measure_ill_formed}
use Rattle.text.proofs.PartLaws.{less, ill_formed_after, step_end}
use mathlib.Core.Path.{◌∙◌, sym}
use Prim.Native.Nat.{◌≤◌}
use native.Mathlib.Omega.{arith}
use lib.ListN.{length}
use borrow.Author.Rules.{rules}
use Rattle.text.proofs.utf8.repaired_length.Goals as goal
use Rattle.text.proofs.utf8.repaired_length.Goals.{else-loop-i-test, then-loop-i-test+else-s-i-lt128+in-End}

pub loop-i-init : goal.loop-i-init
loop-i-init c = search (measure_from, rules)

pub loop-i-smaller-then-s-i-lt128 : goal.loop-i-smaller-then-s-i-lt128
loop-i-smaller-then-s-i-lt128 c = search (less, rules)

pub loop-i-preserved-then-s-i-lt128 : goal.loop-i-preserved-then-s-i-lt128
loop-i-preserved-then-s-i-lt128 c = search (measure_ascii, rules)

pub loop-i-smaller-in-Scalar : goal.loop-i-smaller-in-Scalar
loop-i-smaller-in-Scalar c = search (less, rules)

pub loop-i-preserved-in-Scalar : goal.loop-i-preserved-in-Scalar
loop-i-preserved-in-Scalar c = search (measure_whole, rules)

pub overflow_sub-broken : goal.overflow_sub-broken
overflow_sub-broken c = search (ill_formed_after, rules)

pub loop-i-smaller : goal.loop-i-smaller
loop-i-smaller c = search (less, rules)

pub loop-i-preserved : goal.loop-i-preserved
loop-i-preserved c = search (measure_ill_formed, rules)

pub returns-in_err-checked_mul : goal.returns-in_err-checked_mul
returns-in_err-checked_mul c =
    let e : length c.args.s.now ≤ c.loop-i.i =
    elim c.loop-i-test.branch
    [ else-loop-i-test w ↦ omega arith | then-loop-i-test+else-s-i-lt128+in-End w ↦ step_end _ _ (sym w.step_at.ensures ∙ w.in-End.is) ] in
    c.from_residual.ensures ∙ measure_over _ c.loop-i.invariant e (λ h. c.in_err-checked_mul.ensures (omega arith))

pub returns-in_err-bytes : goal.returns-in_err-bytes
returns-in_err-bytes c =
    let e : length c.args.s.now ≤ c.loop-i.i =
    elim c.loop-i-test.branch
    [ else-loop-i-test w ↦ omega arith | then-loop-i-test+else-s-i-lt128+in-End w ↦ step_end _ _ (sym w.step_at.ensures ∙ w.in-End.is) ] in
    c.from_residual-in_err-bytes.ensures ∙ measure_over _ c.loop-i.invariant e (λ h. c.in_err-bytes.ensures (omega (arith, c.in_ok-checked_mul.ensures)))

pub returns : goal.returns
returns c =
    let e : length c.args.s.now ≤ c.loop-i.i =
    elim c.loop-i-test.branch
    [ else-loop-i-test w ↦ omega arith | then-loop-i-test+else-s-i-lt128+in-End w ↦ step_end _ _ (sym w.step_at.ensures ∙ w.in-End.is) ] in
    measure_last _ c.loop-i.invariant e (omega (arith, c.in_ok-checked_mul.ensures, c.in_ok-bytes.ensures)) (omega (arith, c.in_ok-bytes.ensures))
