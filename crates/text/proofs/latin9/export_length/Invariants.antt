-- What the loop of `text::latin9::export_length` keeps, and its measure.
-- Assumes nothing.
use Prim.Native.Nat.{◌-◌}
use lib.ListN.{length}
use Rattle.text.proofs.latin9.Export.{Measuring}
use Rattle.text.proofs.latin9.export_length.Given as goal

abbrev pub invariant-loop-i : goal.invariant-loop-i
invariant-loop-i l = Measuring l.text l.n l.i

abbrev pub decreases-loop-i : goal.decreases-loop-i
decreases-loop-i l = length l.text - l.i
