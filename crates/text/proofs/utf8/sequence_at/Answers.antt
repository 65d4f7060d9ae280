-- `text::utf8::sequence_at` meets its contract.
-- Assumes nothing.
use Rattle.text.proofs.StepLaws.{starts_none, one, no_second, has_at, two, no_third, three, no_fourth, four}
use mathlib.Core.Path.{sym, ◌∙◌}
use native.Mathlib.Omega.{arith}
use borrow.Author.Rules.{rules}
use Rattle.text.proofs.utf8.sequence_at.Goals as goal

pub returns-then-n-eq0 : goal.returns-then-n-eq0
returns-then-n-eq0 c = search (starts_none, rules)

pub returns-then-n-eq1 : goal.returns-then-n-eq1
returns-then-n-eq1 c = search (one, rules)

pub returns-then-not-has : goal.returns-then-not-has
returns-then-not-has c = search (no_second, rules)

pub returns-then-n-eq2 : goal.returns-then-n-eq2
returns-then-n-eq2 c = search (two, rules)

pub returns-then-not-has-2 : goal.returns-then-not-has-2
returns-then-not-has-2 c = search (no_third, rules)

pub returns-then-n-eq3 : goal.returns-then-n-eq3
returns-then-n-eq3 c = search (three, rules)

pub returns-then-not-has-3 : goal.returns-then-not-has-3
returns-then-not-has-3 c = search (no_fourth, rules)

pub returns : goal.returns
returns c = search (four, rules)

pub value_at-requires-clause-inside : goal.value_at-requires-clause-inside
value_at-requires-clause-inside c = let h = has_at _ _ _ _ (sym c.has.ensures ∙ c.if-not-has.false) in omega arith

pub value_at-requires-then-n-eq3-clause-inside : goal.value_at-requires-then-n-eq3-clause-inside
value_at-requires-then-n-eq3-clause-inside c = let h = has_at _ _ _ _ (sym c.has-2.ensures ∙ c.if-not-has-2.false) in omega arith

pub value_at-requires-2-clause-inside : goal.value_at-requires-2-clause-inside
value_at-requires-2-clause-inside c = let h = has_at _ _ _ _ (sym c.has-3.ensures ∙ c.if-not-has-3.false) in omega arith
