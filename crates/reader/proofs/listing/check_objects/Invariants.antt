-- What the loop of `reader::listing::check_objects` keeps.
-- Assumes nothing.
use Rattle.reader.proofs.listing.Laws.{Passing}
use Rattle.reader.proofs.listing.check_objects.Given as goal

abbrev pub invariant-loop-i : goal.invariant-loop-i
invariant-loop-i l = Passing l.metadata.blob.now l.metadata.w l.i
