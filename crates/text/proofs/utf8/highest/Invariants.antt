-- What the loop of `text::utf8::highest` keeps.
-- Assumes nothing.
use Rattle.text.proofs.AsciiLaws.{Highest}
use Rattle.text.proofs.utf8.highest.Given as goal

abbrev pub invariant-loop-byte : goal.invariant-loop-byte
invariant-loop-byte l = Highest l.text l.high l.byte-index
