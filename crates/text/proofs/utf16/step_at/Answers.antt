-- `text::utf16::step_at` meets its contract.
-- Assumes nothing.
use borrow.Author.Rules.{rules}
use Rattle.text.proofs.utf16.Decode.{step_below}
use Rattle.text.proofs.utf16.step_at.Goals as goal

pub returns-then-first-lt55296 : goal.returns-then-first-lt55296
returns-then-first-lt55296 c = search (step_below, rules)
