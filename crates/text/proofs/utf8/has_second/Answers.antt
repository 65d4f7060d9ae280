-- `text::utf8::has_second` meets its contract.
-- Assumes nothing.
use Rattle.text.proofs.utf8.Size.{second_by}
use borrow.Author.Rules.{rules}
use Rattle.text.proofs.utf8.has_second.Goals as goal

pub returns : goal.returns
returns c = search (second_by, rules)
