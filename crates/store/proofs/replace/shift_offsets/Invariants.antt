-- What the loop of `store::replace::shift_offsets` keeps.
-- Assumes nothing.
use Rattle.store.proofs.ShiftLaws.{Shifting}
use Rattle.store.proofs.replace.shift_offsets.Given as goal

abbrev pub invariant-loop-i : goal.invariant-loop-i
invariant-loop-i l = Shifting l.initial.directory l.first l.n l.old l.new l.directory l.i
