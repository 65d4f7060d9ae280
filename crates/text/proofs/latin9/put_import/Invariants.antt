-- What the loop of `text::latin9::put_import` keeps.
-- Assumes nothing.
use Rattle.text.proofs.latin9.Import.{Writing}
use Rattle.text.proofs.latin9.put_import.Given as goal

abbrev pub invariant-loop-byte : goal.invariant-loop-byte
invariant-loop-byte l = Writing l.bytes l.initial.out l.out l.byte-index l.o
