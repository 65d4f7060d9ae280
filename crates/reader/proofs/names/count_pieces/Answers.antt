-- `reader::names::count_pieces` meets its contract.
-- Assumes nothing.
use Rattle.reader.proofs.names.Pieces.{count_last}
use borrow.Author.Rules.{rules}
use Rattle.reader.proofs.names.count_pieces.Goals as goal

pub returns : goal.returns
returns c = search (count_last, rules)
