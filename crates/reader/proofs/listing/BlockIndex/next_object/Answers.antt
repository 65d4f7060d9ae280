-- `reader::listing::BlockIndex::next_object` meets its contract.
-- Assumes nothing.
use Rattle.reader.proofs.listing.Laws.{next_none, next_block_lem, next_count, next_found}
use borrow.Author.Rules.{rules}
use Rattle.reader.proofs.listing.BlockIndex.next_object.Goals as goal

pub returns-then-block-eq0 : goal.returns-then-block-eq0
returns-then-block-eq0 c = search (next_none, rules)

pub seek_block-cursor-requires : goal.seek_block-cursor-requires
seek_block-cursor-requires c = search (next_block_lem, rules)

pub read_u32-requires : goal.read_u32-requires
read_u32-requires c = search (next_count, rules)

pub returns : goal.returns
returns c = search (next_found, rules)
