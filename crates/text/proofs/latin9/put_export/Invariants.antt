-- What the loop of `text::latin9::put_export` keeps, and its measure.
-- Assumes nothing.
use Prim.Native.Nat.{◌-◌}
use lib.ListN.{length}
use Rattle.text.proofs.latin9.Export.{Writing}
use Rattle.text.proofs.latin9.put_export.Given as goal

abbrev pub invariant-loop-i : goal.invariant-loop-i
invariant-loop-i l = Writing l.text l.initial.out l.out l.i l.o

abbrev pub decreases-loop-i : goal.decreases-loop-i
decreases-loop-i l = length l.text - l.i
