-- `reader::labels::label` meets its contract.
-- Assumes nothing.
use native.Mathlib.Omega.{arith}
use borrow.Author.Rules.{rules}
use Rattle.reader.proofs.labels.Laws.{blob_fits, placeholder_fits, part_fits}
use Rattle.reader.proofs.labels.label.Goals as goal

pub overflow_add-end : goal.overflow_add-end
overflow_add-end c = omega (arith, part_fits _ _ _ c.in-Ok.ensures)

pub slice_bounds-result-end : goal.slice_bounds-result-end
slice_bounds-result-end c = search (blob_fits, c.in-Ok.ensures, rules)

pub slice_bounds-result-end-in-Placeholder : goal.slice_bounds-result-end-in-Placeholder
slice_bounds-result-end-in-Placeholder c = search (placeholder_fits, c.in-Ok.ensures, rules)
