-- `text::utf8::value_at` meets its contract: a law for each size.
-- Assumes nothing.
use native.Mathlib.Omega.{arith}
use mathlib.Core.Path.{◌≡◌, sym}
use Rattle.text.proofs.StepLaws.{value_2, value_3, value_4}
use Rattle.text.proofs.utf8.value_at.Goals as goal

pub returns-then-size-eq2 : goal.returns-then-size-eq2
returns-then-size-eq2 c = rw (c.if-size-eq2.true, c.from-b.ensures, c.from.ensures) (sym (value_2 _ _))

pub returns-then-size-eq3 : goal.returns-then-size-eq3
returns-then-size-eq3 c = rw (c.if-size-eq3.true, c.from-b.ensures, c.from-c.ensures, c.from-then-size-eq3.ensures) (sym (value_3 _ _))

pub returns : goal.returns
returns c =
    let k : c.args.size ≡ 4 = omega arith in
    rw (k, c.from-b.ensures, c.from-c.ensures, c.from-d.ensures, c.from-2.ensures) (sym (value_4 _ _))
