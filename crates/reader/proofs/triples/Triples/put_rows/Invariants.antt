-- What the loop of `reader::triples::Triples::put_rows` keeps.
-- Assumes nothing.
use Rattle.reader.proofs.FrontLaws.{Fronts}
use Rattle.reader.proofs.properties.Laws.{rows_from}
use Rattle.reader.proofs.triples.Triples.put_rows.Given as goal

abbrev pub invariant-loop-i : goal.invariant-loop-i
invariant-loop-i l = Fronts (rows_from l.self) l.initial.rows l.i l.rows
