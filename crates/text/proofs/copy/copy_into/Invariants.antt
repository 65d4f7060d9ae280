-- What the loop of `text::copy::copy_into` keeps: so many items are copied.
-- Assumes nothing.
use Rattle.text.proofs.copy.Laws.{Copying}
use Rattle.text.proofs.copy.copy_into.Given as goal

abbrev pub invariant-loop-i : goal.invariant-loop-i
invariant-loop-i g l = Copying l.items l.initial.out l.at l.out l.i
