-- `printing::lines::write_numbered` meets its contract.
-- Assumes nothing.
use Rattle.printing.proofs.lines.Laws.{numbered_written}
use borrow.Author.Rules.{rules}
use Rattle.printing.proofs.lines.write_numbered.Goals as goal

pub returns : goal.returns
returns c = search (numbered_written, rules)
