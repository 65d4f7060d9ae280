-- `text::utf8::has_scalar` meets its contract: a law for each arm.
-- Assumes nothing.
use Rattle.text.proofs.utf8.Same.{has_by_value, has_not}
use borrow.Author.Rules.{rules}
use Rattle.text.proofs.utf8.has_scalar.Goals as goal

pub returns-in-Scalar : goal.returns-in-Scalar
returns-in-Scalar c = search (has_by_value, rules)

pub returns-in_default : goal.returns-in_default
returns-in_default c = has_not _ _ _ c.step_at.ensures c.in_default.not-Scalar
