-- What the loop of `reader::triples::Triples::first_named` keeps, and its measure.
-- Assumes nothing.
use Prim.Native.Nat.{◌+◌, ◌-◌}
use Rattle.reader.proofs.find.Laws.{Walking}
use Rattle.reader.proofs.triples.Triples.first_named.Given as goal

abbrev pub invariant-loop-walk : goal.invariant-loop-walk
invariant-loop-walk l = Walking l.self l.wanted l.walk l.best

abbrev pub decreases-loop-walk : goal.decreases-loop-walk
decreases-loop-walk l = l.names + 1 - l.walk.name
