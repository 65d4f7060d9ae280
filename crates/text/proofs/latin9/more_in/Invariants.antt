-- What the loop of `text::latin9::more_in` keeps.
-- Assumes nothing.
use Rattle.text.proofs.latin9.Import.{Measuring}
use Rattle.text.proofs.latin9.more_in.Given as goal

abbrev pub invariant-loop-byte : goal.invariant-loop-byte
invariant-loop-byte l = Measuring l.bytes l.more l.byte-index
