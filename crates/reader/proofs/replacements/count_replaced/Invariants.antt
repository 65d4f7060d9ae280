-- What the loop of `reader::replacements::count_replaced` keeps, and its measure.
-- Assumes nothing.
use Prim.Native.Nat.{◌+◌, ◌-◌}
use Rattle.reader.proofs.replacements.Laws.{Counting}
use Rattle.reader.proofs.replacements.count_replaced.Given as goal

abbrev pub invariant-loop-walk : goal.invariant-loop-walk
invariant-loop-walk l = Counting l.metadata l.initial.rows l.rows l.walk

abbrev pub decreases-loop-walk : goal.decreases-loop-walk
decreases-loop-walk l = l.names + 1 - l.walk.name
