-- `printing::lines::put_decimal`: the digits of v, before index i, are still to write.
-- Assumes nothing.
use Rattle.printing.proofs.lines.Laws.{Printing}
use Rattle.printing.proofs.lines.put_decimal.Given as goal

abbrev pub invariant-loop-i : goal.invariant-loop-i
invariant-loop-i l = Printing l.value l.out l.v l.i
