-- What the loop of `text::utf8::is_lossy` keeps, and its measure.
-- Assumes nothing.
use Rattle.text.proofs.PartLaws.{left}
use Rattle.text.proofs.utf8.Same.{Matching}
use Rattle.text.proofs.utf8.is_lossy.Given as goal

abbrev pub invariant-loop-value : goal.invariant-loop-value
invariant-loop-value l = Matching l.s l.text l.i l.o

abbrev pub decreases-loop-value : goal.decreases-loop-value
decreases-loop-value l = left l.s l.i
