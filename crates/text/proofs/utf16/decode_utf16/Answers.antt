-- `text::utf16::decode_utf16` meets its contract.
-- Assumes nothing.
use Rattle.text.proofs.utf16.Decode.{decode_short, decode_written, decode_unpaired}
use borrow.Author.Rules.{rules}
use Rattle.text.proofs.utf16.decode_utf16.Goals as goal

pub returns-then-text-n : goal.returns-then-text-n
returns-then-text-n c = search (decode_short, rules)

pub returns : goal.returns
returns c = search (decode_written, rules)

pub returns-in_default : goal.returns-in_default
returns-in_default c = search (decode_unpaired, rules)
