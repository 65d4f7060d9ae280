-- `reader::blocks::block_after` meets its contract.
-- Assumes nothing.
use native.Mathlib.Numerals.{add-one}
use borrow.Author.Rules.{rules}
use Rattle.reader.specs.Blocks.{block_at, next_block}
use Rattle.reader.proofs.blocks.block_after.Goals as goal

pub loop-init : goal.loop-init
unfolding block_at
loop-init c = search rules

pub loop-preserved : goal.loop-preserved
unfolding block_at next_block
loop-preserved c = rw (c.round_up-i.ensures, c.block_end.ensures, c.loop.invariant, add-one)
