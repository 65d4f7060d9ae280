-- `writer::checks::Strings::measure` meets its contract.
-- Assumes nothing.
use Rattle.writer.proofs.checks.Measure.{measure_start, measure_fits, measure_stop, measure_turn, measure_last}
use borrow.Author.Rules.{rules}
use native.Mathlib.Omega.{arith}
use Rattle.writer.proofs.checks.Strings.measure.Goals as goal

pub loop-i-init : goal.loop-i-init
loop-i-init c = measure_start _ _ _

pub returns-in_default : goal.returns-in_default
returns-in_default c = measure_stop _ _ _ c.loop-i.invariant (omega arith) c.in_default.ensures

pub overflow_add-units : goal.overflow_add-units
overflow_add-units c = let h = measure_fits _ _ _ c.loop-i.invariant (omega arith) c.in-Some.ensures (omega arith) in omega arith

pub loop-i-preserved : goal.loop-i-preserved
loop-i-preserved c = measure_turn _ _ _ c.loop-i.invariant (omega arith) c.in-Some.ensures

pub returns : goal.returns
returns c = search (measure_last, rules)
