-- What the loop of `text::utf8::is_text_from` keeps, and its measure.
-- Assumes nothing.
use Rattle.text.proofs.latin9.Export.{Checking}
use Prim.Native.Nat.{◌-◌}
use lib.ListN.{length}
use Rattle.text.proofs.utf8.is_text_from.Given as goal

abbrev pub invariant-loop-i : goal.invariant-loop-i
invariant-loop-i l = Checking l.text l.start l.i

abbrev pub decreases-loop-i : goal.decreases-loop-i
decreases-loop-i l = length l.text - l.i
