-- What the loop of `reader::names::piece_end` keeps.
-- Assumes nothing.
use Rattle.reader.specs.Stages.Names.{Running}
use Rattle.reader.proofs.names.piece_end.Given as goal

abbrev pub invariant-loop-i : goal.invariant-loop-i
invariant-loop-i l = Running l.rest l.i
