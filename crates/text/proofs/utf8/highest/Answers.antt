-- `text::utf8::highest` meets its contract: the laws of its loop answer each goal.
-- Assumes nothing.
use Rattle.text.proofs.AsciiLaws.{highest_turn}
use borrow.Author.Rules.{rules}
use Rattle.text.proofs.utf8.highest.Goals as goal

pub loop-byte-preserved : goal.loop-byte-preserved
loop-byte-preserved c = search (highest_turn, rules)
