-- `text::utf8::lossy_length` meets its contract.
-- Assumes nothing.
use Rattle.text.proofs.utf8.Lossy.{length_kept}
use borrow.Author.Rules.{rules}
use Rattle.text.proofs.utf8.lossy_length.Goals as goal

pub returns-in-Ok : goal.returns-in-Ok
returns-in-Ok c = search (length_kept, rules)
