-- `writer::packing::Packer::push_scalar` meets its contract.
-- Assumes nothing.
use native.Mathlib.Omega.{arith}
use Rattle.writer.proofs.packing.Laws.{pushed_count, pushed_length, pushed_then, one_room, one_pushed, two_room, two_pushed}
use Rattle.writer.proofs.packing.Packer.push_scalar.Goals as goal

pub push-requires : goal.push-requires
push-requires c = (omega arith, ((omega arith, omega arith), one_room _ _ _ c.requires.room c.if-value-lt65536.true))

pub returns-then-value-lt65536-clause-pushed : goal.returns-then-value-lt65536-clause-pushed
returns-then-value-lt65536-clause-pushed c = one_pushed _ c.if-value-lt65536.true c.push.ensures.pushed

pub push-requires-then-self-eq3 : goal.push-requires-then-self-eq3
push-requires-then-self-eq3 c = let h = two_room _ _ _ c.requires.room c.if-value-lt65536.false in (omega arith, ((omega arith, omega arith), omega arith))

pub push-requires-then-self-eq3-2 : goal.push-requires-then-self-eq3-2
push-requires-then-self-eq3-2 c =
    let h = two_room _ _ _ c.requires.room c.if-value-lt65536.false in
    let n = pushed_count c.push-then-self-eq3.ensures.pushed in
    let l = pushed_length c.push-then-self-eq3.ensures.pushed in
    (omega arith, ((omega arith, omega arith), omega arith))

pub returns-then-self-eq3-clause-pushed : goal.returns-then-self-eq3-clause-pushed
returns-then-self-eq3-clause-pushed c =
    two_pushed _ c.if-value-lt65536.false (pushed_then c.push-then-self-eq3.ensures.pushed c.push-then-self-eq3-2.ensures.pushed)

pub push-requires-2 : goal.push-requires-2
push-requires-2 c = (omega arith, ((omega arith, omega arith), two_room _ _ _ c.requires.room c.if-value-lt65536.false))

pub returns-clause-pushed : goal.returns-clause-pushed
returns-clause-pushed c = two_pushed _ c.if-value-lt65536.false c.push-2.ensures.pushed
