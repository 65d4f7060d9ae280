-- `text::latin9::byte_at` meets its contract.
-- Assumes nothing.
use borrow.Author.Rules.{rules}
use Rattle.text.proofs.latin9.Export.{four_bytes}
use Rattle.text.proofs.latin9.byte_at.Goals as goal

pub returns-then-size-gt3 : goal.returns-then-size-gt3
returns-then-size-gt3 c = search (four_bytes, rules)
