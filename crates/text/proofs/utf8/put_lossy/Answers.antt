-- `text::utf8::put_lossy` meets its contract.
-- Assumes nothing.
use Rattle.text.proofs.BufferLaws.{placed_past}
use Rattle.text.proofs.utf8.Lossy.{lossy_kept, lossy_placed}
use borrow.Author.Rules.{rules}
use Rattle.text.proofs.utf8.put_lossy.Goals as goal

pub returns-then-out-at : goal.returns-then-out-at
returns-then-out-at c = search (placed_past, rules)

pub returns-then-not-lossy_fits : goal.returns-then-not-lossy_fits
returns-then-not-lossy_fits c = search (lossy_kept, rules)

pub returns : goal.returns
returns c = search (lossy_placed, rules)
