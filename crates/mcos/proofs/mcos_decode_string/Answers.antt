-- `mcos::mcos_decode_string` meets its contract.
-- Assumes nothing.
use Rattle.mcos.proofs.ExportLaws.{told_strings}
use borrow.Author.Rules.{rules}
use Rattle.mcos.proofs.mcos_decode_string.Goals as goal

pub returns : goal.returns
returns c = search (told_strings, rules)
