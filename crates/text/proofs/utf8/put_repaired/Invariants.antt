-- What the loop of `text::utf8::put_repaired` keeps, and its measure.
-- Assumes nothing.
use Rattle.text.proofs.utf8.Lossy.{Writing}
use Rattle.text.proofs.PartLaws.{left}
use Rattle.text.proofs.utf8.put_repaired.Given as goal

abbrev pub invariant-loop-value : goal.invariant-loop-value
invariant-loop-value l = Writing l.s l.initial.out l.out l.i l.o

abbrev pub decreases-loop-value : goal.decreases-loop-value
decreases-loop-value l = left l.s l.i
