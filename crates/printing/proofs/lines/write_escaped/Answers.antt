-- `printing::lines::write_escaped` meets its contract.
-- Assumes nothing.
use native.Mathlib.Omega.{arith}
use Rattle.printing.proofs.lines.Laws.{text_written}
use borrow.Author.Rules.{rules}
use Rattle.printing.proofs.lines.write_escaped.Goals as goal

pub returns : goal.returns
returns c = text_written _ _ (omega arith) (search rules)
