-- `printing::lines::write_word` meets its contract.
-- Assumes nothing.
use Rattle.printing.proofs.lines.Laws.{text_copied}
use borrow.Author.Rules.{rules}
use Rattle.printing.proofs.lines.write_word.Goals as goal

pub returns : goal.returns
returns c = search (text_copied, rules)
