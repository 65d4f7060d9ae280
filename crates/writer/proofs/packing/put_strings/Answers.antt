-- `writer::packing::put_strings` meets its contract: the laws of its loop answer each goal.
-- Assumes nothing.
use mathlib.Core.Path.{refl, ◌∙◌}
use native.Mathlib.Omega.{arith}
use Rattle.writer.proofs.packing.Laws.{pushed_count}
use Rattle.writer.proofs.StringWordLaws.{counts_fit, string_start, string_fits, string_turn, finish_room, string_last}
use borrow.Author.Rules.{rules}
use Rattle.writer.proofs.packing.put_strings.Goals as goal

pub split_at_mut-counts-requires : goal.split_at_mut-counts-requires
split_at_mut-counts-requires c = rw c.len.ensures (counts_fit _ _ _ c.requires)

pub loop-i-init : goal.loop-i-init
loop-i-init c = record { name = refl; stringing = rw (c.split_at_mut-counts.ensures.front, c.len.ensures) (string_start _ _ _ c.requires _ (rw c.len.ensures at c.split_at_mut-counts.ensures.back) refl refl) }

pub push_text-requires : goal.push_text-requires
push_text-requires c = rw c.get.ensures (string_fits _ _ _ c.requires c.loop-i.invariant.stringing (omega arith))

pub overflow_sub-count : goal.overflow_sub-count
overflow_sub-count c = let h = pushed_count c.push_text.ensures.pushed in omega arith

pub loop-i-preserved : goal.loop-i-preserved
loop-i-preserved c = record {
  name = c.push_text.ensures.kept ∙ c.loop-i.invariant.name;
  stringing = string_turn _ _ _ c.requires c.loop-i.invariant.stringing (omega arith) (rw c.get.ensures at c.push_text.ensures.pushed);
}

pub finish-requires : goal.finish-requires
finish-requires c = finish_room _ _ _ c.requires c.loop-i.invariant.stringing (omega arith)

pub returns : goal.returns
returns c = string_last _ _ _ c.requires c.loop-i.invariant.stringing (omega arith) c.finish.ensures.finished (search rules)
