-- What the loop of `reader::names::compare_piece` keeps.
-- Assumes nothing.
use Rattle.reader.proofs.names.Comparison.{Agreeing}
use Rattle.reader.proofs.names.compare_piece.Given as goal

abbrev pub invariant-loop-n : goal.invariant-loop-n
invariant-loop-n l = Agreeing l.rest l.wanted l.n
