-- What the loop of `reader::units::put_text` keeps, and its measure.
-- Assumes nothing.
use Prim.Native.Nat.{◌+◌, ◌-◌}
use Rattle.reader.proofs.units.Text.{Writing}
use Rattle.reader.proofs.units.put_text.Given as goal

abbrev pub invariant-loop-i : goal.invariant-loop-i
invariant-loop-i l = Writing l.words l.first l.k l.n l.initial.out l.out l.i l.o

abbrev pub decreases-loop-i : goal.decreases-loop-i
decreases-loop-i l = l.k + l.n - l.i
