-- What the loop of `text::utf8::repaired_length` keeps, and its measure.
-- Assumes nothing.
use Rattle.text.proofs.PartLaws.{left}
use Rattle.text.proofs.utf8.Lossy.{Measuring}
use Rattle.text.proofs.utf8.repaired_length.Given as goal

abbrev pub invariant-loop-i : goal.invariant-loop-i
invariant-loop-i l = Measuring l.s l.broken l.replaced l.i

abbrev pub decreases-loop-i : goal.decreases-loop-i
decreases-loop-i l = left l.s l.i
