-- What the loop of `text::convert::checked_product` keeps.
-- Assumes nothing.
use mathlib.Core.List.{map}
use Rattle.text.proofs.convert.Products.{Multiplying}
use Rattle.text.proofs.convert.checked_product.Given as goal

abbrev pub invariant-loop-i : goal.invariant-loop-i
invariant-loop-i g l = Multiplying (map g.D.Dimension.size l.dims) l.product l.i
