-- What the loop of `writer::compare::has_words` keeps.
-- Assumes nothing.
use Rattle.writer.proofs.compare.Laws.{Reading}
use Rattle.writer.proofs.compare.has_words.Given as goal

abbrev pub invariant-loop-i : goal.invariant-loop-i
invariant-loop-i l = Reading l.blob l.words l.at l.i
