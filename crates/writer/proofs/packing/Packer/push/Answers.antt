-- `writer::packing::Packer::push` meets its contract.
-- Assumes nothing.
use mathlib.Core.Path.{refl}
use native.Mathlib.Omega.{arith}
use Rattle.writer.proofs.packing.Laws.{shift_start, shift_turn, push_stores, push_keeps}
use Rattle.writer.proofs.packing.Packer.push.Goals as goal

pub loop-unit-init : goal.loop-unit-init
loop-unit-init g c = shift_start _ _

pub loop-unit-preserved : goal.loop-unit-preserved
loop-unit-preserved g c = shift_turn _ _ c.loop-unit.invariant (omega arith) c.from.ensures (omega arith)

pub returns-then-self-eq0-clause-pushed : goal.returns-then-self-eq0-clause-pushed
returns-then-self-eq0-clause-pushed g c =
    push_stores _ _ c.loop-unit.invariant (omega arith) (omega arith) (omega arith) (omega arith) _ refl refl c.if-self-eq0.true refl

pub returns-else-self-eq0-clause-pushed : goal.returns-else-self-eq0-clause-pushed
returns-else-self-eq0-clause-pushed g c =
    push_keeps _ _ c.loop-unit.invariant (omega arith) (omega arith) (omega arith) (omega arith) _ refl refl c.if-self-eq0.false refl
