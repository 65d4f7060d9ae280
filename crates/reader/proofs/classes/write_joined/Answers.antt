-- `reader::classes::write_joined` meets its contract.
-- Assumes nothing.
use Rattle.reader.proofs.classes.Laws.{joined_written}
use borrow.Author.Rules.{rules}
use Rattle.reader.proofs.classes.write_joined.Goals as goal

pub returns : goal.returns
returns c = search (joined_written, rules)
