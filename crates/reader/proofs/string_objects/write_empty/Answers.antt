-- `reader::string_objects::write_empty` meets its contract.
-- Assumes nothing.
use Rattle.reader.proofs.string_objects.Laws.{empty_short, empty_written}
use borrow.Author.Rules.{rules}
use Rattle.reader.proofs.string_objects.write_empty.Goals as goal

pub returns-then-spans-lt2 : goal.returns-then-spans-lt2
returns-then-spans-lt2 c = search (empty_short, rules)

pub returns : goal.returns
returns c = search (empty_written, rules)
