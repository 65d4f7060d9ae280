-- `mcos::mcos_properties` meets its contract.
-- Assumes nothing.
use Rattle.mcos.proofs.ExportLaws.{told_list}
use borrow.Author.Rules.{rules}
use Rattle.mcos.proofs.mcos_properties.Goals as goal

pub returns : goal.returns
returns c = search (told_list, rules)
