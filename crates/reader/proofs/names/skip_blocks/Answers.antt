-- `reader::names::skip_blocks` meets its contract.
-- Assumes nothing.
use native.Mathlib.Omega.{arith}
use Rattle.reader.proofs.names.Pieces.{skip_counts, skip_turn}
use Rattle.reader.proofs.names.skip_blocks.Goals as goal

pub overflow_add-more : goal.overflow_add-more
overflow_add-more c = omega (arith, skip_counts c.loop-block.invariant c.count_zeros.ensures c.in-Some.ensures.cases.0)

pub loop-block-preserved : goal.loop-block-preserved
loop-block-preserved c =
    skip_turn c.loop-block.invariant c.count_zeros.ensures c.in-Some.ensures.cases.0 c.in-Some.ensures.cases.1 (omega arith)
