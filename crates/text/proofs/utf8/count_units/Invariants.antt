-- What the loop of `text::utf8::count_units` keeps, and its measure.
-- Assumes nothing.
use Rattle.text.proofs.utf8.Count.{Counting}
use Prim.Native.Nat.{◌-◌}
use lib.ListN.{length}
use Rattle.text.proofs.utf8.count_units.Given as goal

abbrev pub invariant-loop-i : goal.invariant-loop-i
invariant-loop-i l = Counting l.text l.n l.i

abbrev pub decreases-loop-i : goal.decreases-loop-i
decreases-loop-i l = length l.text - l.i
