-- `reader::listing::BlockIndex::seek_block` meets its contract.
-- Assumes nothing.
use Rattle.reader.proofs.listing.Index.{block_near, near_has, block_found}
use Rattle.reader.proofs.listing.BlockIndex.seek_block.Goals as goal

pub nearest-from-requires : goal.nearest-from-requires
nearest-from-requires c = block_near c.args.self.plan c.requires

pub seek-requires : goal.seek-requires
seek-requires c = (c.nearest-from.ensures.behind, near_has _ c.requires c.args.self.filled c.nearest-from.ensures)

pub returns : goal.returns
returns c = block_found _ c.requires c.args.self.filled c.nearest-from.ensures c.seek.ensures.0
