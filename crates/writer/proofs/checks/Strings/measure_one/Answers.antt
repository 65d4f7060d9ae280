-- `writer::checks::Strings::measure_one` meets its contract.
-- Assumes nothing.
use native.Mathlib.Omega.{arith}
use Rattle.writer.proofs.SpanLaws.{measured_past, measured_before, measured_ill_formed, measured_units}
use Rattle.writer.proofs.checks.Strings.measure_one.Goals as goal

pub returns-in_err-last : goal.returns-in_err-last
returns-in_err-last c = rw c.from_residual.ensures (measured_past _ _ _ _ c.span-offset.ensures.0 c.span-offset.ensures.1 (let h = c.in_err-last.ensures in omega arith))

pub returns-then-offset-end : goal.returns-then-offset-end
returns-then-offset-end c = measured_before _ _ _ _ c.span-offset.ensures.0 c.span-offset.ensures.1 c.if-offset-end.true

pub returns-in_err-get : goal.returns-in_err-get
returns-in_err-get c =
    let a = c.in_ok-last.ensures in
    let h = c.in_err-get.ensures.lookup.0 in
    rw c.from_residual-in_err-get.ensures (measured_past _ _ _ _ c.span-offset.ensures.0 c.span-offset.ensures.1 (omega arith))

pub returns-in_err-units : goal.returns-in_err-units
returns-in_err-units c =
    let p = c.in_ok-get.ensures.lookup.0 in
    rw c.from_residual-in_err-units.ensures
    (measured_ill_formed _ _ _ _ c.span-offset.ensures.0 c.span-offset.ensures.1 c.in_ok-last.ensures.1 c.if-offset-end.false p.1 p.2 c.count_units.ensures
    c.in_err-units.ensures.value)

pub returns : goal.returns
returns c =
    let p = c.in_ok-get.ensures.lookup.0 in
    measured_units _ _ _ _ c.span-offset.ensures.0 c.span-offset.ensures.1 c.in_ok-last.ensures.1 c.if-offset-end.false p.1 p.2 c.count_units.ensures
    c.in_ok-units.ensures.value
