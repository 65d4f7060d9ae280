-- What the loop of `text::utf16::put_text` keeps, and its measure.
-- Assumes nothing.
use Prim.Native.Nat.{◌-◌}
use lib.ListN.{length}
use Rattle.text.proofs.utf16.Decode.{Writing}
use Rattle.text.proofs.utf16.put_text.Given as goal

abbrev pub invariant-loop-i : goal.invariant-loop-i
invariant-loop-i l = Writing l.units l.initial.out l.out l.i l.o

abbrev pub decreases-loop-i : goal.decreases-loop-i
decreases-loop-i l = length l.units - l.i
