-- `text::convert::checked_product` meets its contract.
-- Assumes nothing.
use Rattle.text.proofs.convert.Products.{multiply_start, multiply_turn, multiply_stop, multiply_last}
use Rattle.text.proofs.convert.checked_product.Goals as goal

pub loop-i-init : goal.loop-i-init
loop-i-init g c = multiply_start _ _

pub returns-in_default : goal.returns-in_default
returns-in_default g c = multiply_stop _ _ c.loop-i.invariant c.loop-i-test.true c.index-dims-i.is c.size.ensures c.in_default.ensures

pub loop-i-preserved : goal.loop-i-preserved
loop-i-preserved g c = multiply_turn _ _ c.loop-i.invariant c.loop-i-test.true c.index-dims-i.is c.size.ensures c.in-Some.ensures

pub returns : goal.returns
returns g c = multiply_last _ _ c.loop-i.invariant c.loop-i-test.false
