-- What the loop of `reader::cells::check_cells` keeps.
-- Assumes nothing.
use Rattle.reader.specs.Cells.{cell_count}
use Rattle.reader.proofs.cells.Laws.{CellsBefore}
use Rattle.reader.proofs.cells.check_cells.Given as goal

abbrev pub invariant-loop-i : goal.invariant-loop-i
invariant-loop-i l = CellsBefore l.directory l.words (cell_count l.directory) l.end l.i
