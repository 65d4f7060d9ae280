-- `writer::packing::Packer::push_text` meets its contract: the laws of its loop answer each goal.
-- Assumes nothing.
use mathlib.Core.Path.{refl, ◌∙◌}
use native.Mathlib.Omega.{arith}
use Rattle.writer.proofs.packing.Laws.{push_start, push_from, ascii_fits, ascii_less, ascii_turn, push_sequence, push_value, push_room, sequence_less, push_turn, push_last}
use Rattle.writer.proofs.packing.Packer.push_text.Goals as goal

pub loop-i-init : goal.loop-i-init
loop-i-init c = record { name = refl; pushing = push_start _ _ c.requires }

pub push_ascii-i-requires-clause-packable_from : goal.push_ascii-i-requires-clause-packable_from
push_ascii-i-requires-clause-packable_from c = push_from _ _ c.requires c.loop-i.invariant.pushing

pub overflow_add-i : goal.overflow_add-i
overflow_add-i c = let h = ascii_fits _ _ c.requires c.loop-i.invariant.pushing c.push_ascii-i.ensures.pushed (omega arith) in omega arith

pub loop-i-smaller-then-text-i-lt128 : goal.loop-i-smaller-then-text-i-lt128
loop-i-smaller-then-text-i-lt128 c = ascii_less _ _ c.requires c.loop-i.invariant.pushing c.push_ascii-i.ensures.pushed

pub loop-i-preserved-then-text-i-lt128 : goal.loop-i-preserved-then-text-i-lt128
loop-i-preserved-then-text-i-lt128 c = record {
  name = c.push_ascii-i.ensures.kept ∙ c.loop-i.invariant.name;
  pushing = ascii_turn _ _ c.requires c.loop-i.invariant.pushing c.push_ascii-i.ensures.pushed;
}

pub sequence_at-sequence-requires : goal.sequence_at-sequence-requires
sequence_at-sequence-requires c = push_sequence _ _ c.requires c.loop-i.invariant.pushing c.loop-i-test.true c.if-text-i-lt128.false

pub push_scalar-requires-clause-scalar : goal.push_scalar-requires-clause-scalar
push_scalar-requires-clause-scalar c = push_value _ _ c.requires c.loop-i.invariant.pushing c.sequence_at-sequence.ensures

pub push_scalar-requires-clause-room : goal.push_scalar-requires-clause-room
push_scalar-requires-clause-room c = push_room _ _ c.requires c.loop-i.invariant.pushing c.sequence_at-sequence.ensures

pub loop-i-smaller : goal.loop-i-smaller
loop-i-smaller c = sequence_less _ _ c.sequence_at-sequence.ensures

pub loop-i-preserved : goal.loop-i-preserved
loop-i-preserved c = record {
  name = c.push_scalar.ensures.kept ∙ c.loop-i.invariant.name;
  pushing = push_turn _ _ c.requires c.loop-i.invariant.pushing c.sequence_at-sequence.ensures c.push_scalar.ensures.pushed;
}

pub returns-clause-pushed : goal.returns-clause-pushed
returns-clause-pushed c = push_last _ _ c.requires c.loop-i.invariant.pushing c.loop-i-test.false
