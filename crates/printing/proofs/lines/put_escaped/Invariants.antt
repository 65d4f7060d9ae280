-- `printing::lines::put_escaped`: the bytes before i are written up to index o.
-- Assumes nothing.
use Rattle.printing.proofs.lines.Laws.{Writing}
use Rattle.printing.proofs.lines.put_escaped.Given as goal

abbrev pub invariant-loop-byte : goal.invariant-loop-byte
invariant-loop-byte l = Writing l.name l.initial.out l.out l.o l.byte-index
