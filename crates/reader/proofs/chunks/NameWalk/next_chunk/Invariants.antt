-- What the loop of `reader::chunks::NameWalk::next_chunk` keeps.
-- Assumes nothing.
use Prim.Native.Nat.{◌≤◌}
use Rattle.reader.specs.Stages.Chunks.{Tabulates}
use Rattle.reader.proofs.chunks.NameWalk.next_chunk.Given as goal

abbrev pub invariant-loop-x : goal.invariant-loop-x
invariant-loop-x g l = (l.x ≤ l.end) × Tabulates l.metadata g.L.Look.usual (g.L.Look.told l.look) l.first l.x l.table l.any l.next
