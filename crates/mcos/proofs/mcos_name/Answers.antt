-- `mcos::mcos_name` meets its contract.
-- Assumes nothing.
use Rattle.mcos.proofs.ExportLaws.{told_text}
use borrow.Author.Rules.{rules}
use Rattle.mcos.proofs.mcos_name.Goals as goal

pub returns : goal.returns
returns c = search (told_text, rules)
