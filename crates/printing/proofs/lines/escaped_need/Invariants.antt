-- `printing::lines::escaped_need`: the bytes before i need n.
-- Assumes nothing.
use Rattle.printing.proofs.lines.Laws.{Measuring}
use Rattle.printing.proofs.lines.escaped_need.Given as goal

abbrev pub invariant-loop-byte : goal.invariant-loop-byte
invariant-loop-byte l = Measuring l.name l.n l.byte-index
