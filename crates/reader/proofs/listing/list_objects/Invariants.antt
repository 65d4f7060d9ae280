-- What the loop of `reader::listing::list_objects` keeps.
-- Assumes nothing.
use Rattle.reader.proofs.listing.Laws.{Filling}
use Rattle.reader.proofs.listing.list_objects.Given as goal

abbrev pub invariant-loop-i : goal.invariant-loop-i
invariant-loop-i l = Filling l.listing.plan.metadata l.initial.rows l.i l.cursors l.rows
