-- What the loop of `reader::properties::check_triples` keeps.
-- Assumes nothing.
use Rattle.reader.proofs.properties.Laws.{Checking}
use Rattle.reader.proofs.properties.check_triples.Given as goal

abbrev pub invariant-loop-i : goal.invariant-loop-i
invariant-loop-i l = Checking l.metadata.blob.now l.metadata.w l.start l.count l.i
