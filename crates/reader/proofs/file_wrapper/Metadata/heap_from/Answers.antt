-- `reader::file_wrapper::Metadata::heap_from` meets its contract.
-- Assumes nothing.
use borrow.Author.Rules.{rules}
use Rattle.reader.proofs.NameLaws.{heap_least, heap_piece}
use Rattle.reader.proofs.file_wrapper.Metadata.heap_from.Goals as goal

pub heap_at-requires : goal.heap_at-requires
heap_at-requires c = heap_least c.args.self.opens c.requires.0 c.requires.1

pub from_piece-requires : goal.from_piece-requires
from_piece-requires c = heap_piece c.args.self.opens c.requires.0 c.requires.1 c.heap_at.ensures.0

pub returns : goal.returns
returns c = search rules
