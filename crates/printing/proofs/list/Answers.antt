-- `printing::list`: a blob has fewer than 2^32 records.
-- Assumes nothing.
use native.Mathlib.Omega.{arith}
use Rattle.reader.proofs.NameLaws.{few_records}
use Rattle.printing.proofs.list.Goals as goal

pub overflow_cast-w : goal.overflow_cast-w
overflow_cast-w g c = omega (arith, few_records _ c.in-Ok.ensures)
