-- `reader::cells::Cells::cell_at` meets its contract.
-- Assumes nothing.
use Rattle.reader.proofs.cells.Laws.{cell_kind, cell_end, cell_fits, cell_byte}
use borrow.Author.Rules.{rules}
use Rattle.reader.proofs.cells.Cells.cell_at.Goals as goal

pub bounds-self-j : goal.bounds-self-j
bounds-self-j c = search (cell_kind, c.args.self.checked, rules)

pub overflow_add-end : goal.overflow_add-end
overflow_add-end c = search (cell_fits, c.args.self.checked, rules)

pub offset_bounds-self-start : goal.offset_bounds-self-start
offset_bounds-self-start c = search (cell_byte, c.args.self.checked, rules)

pub slice_bounds-result-end : goal.slice_bounds-result-end
slice_bounds-result-end c = search (cell_end, c.args.self.checked, rules)
