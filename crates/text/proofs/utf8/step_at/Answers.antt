-- `text::utf8::step_at` meets its contract.
-- Assumes nothing.
use Rattle.text.proofs.StepLaws.{past}
use Rattle.text.proofs.LeadLaws.{ascii}
use borrow.Author.Rules.{rules}
use Rattle.text.proofs.utf8.step_at.Goals as goal

pub returns-then-s-at : goal.returns-then-s-at
returns-then-s-at c = search (past, rules)

pub returns-then-lead-lt128 : goal.returns-then-lead-lt128
returns-then-lead-lt128 c = search (ascii, rules)
