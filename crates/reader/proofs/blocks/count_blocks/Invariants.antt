-- What the loop of `reader::blocks::count_blocks` keeps, and its measure.
-- Assumes nothing.
use Prim.Native.Nat.{◌-◌}
use Rattle.reader.proofs.blocks.Laws.{Counting}
use Rattle.reader.proofs.blocks.count_blocks.Given as goal

abbrev pub invariant-loop-last : goal.invariant-loop-last
invariant-loop-last l = Counting l.size l.blob l.start l.end l.n l.at

abbrev pub decreases-loop-last : goal.decreases-loop-last
decreases-loop-last l = 16777224 - l.at
