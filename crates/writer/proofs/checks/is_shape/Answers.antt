-- `writer::checks::is_shape` meets its contract.
-- Assumes nothing.
use Rattle.writer.proofs.ShapeLaws.{product_test}
use mathlib.Core.Path.{◌∙◌}
use Rattle.writer.proofs.checks.is_shape.Goals as goal

pub returns : goal.returns
returns c = c.eq.ensures ∙ rw c.checked_product.ensures (product_test _ _)
