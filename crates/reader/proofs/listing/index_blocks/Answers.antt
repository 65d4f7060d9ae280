-- `reader::listing::index_blocks` meets its contract.
-- Assumes nothing.
use Rattle.reader.proofs.listing.Index.{index_filled}
use borrow.Author.Rules.{rules}
use Rattle.reader.proofs.listing.index_blocks.Goals as goal

pub returns : goal.returns
returns c = search (index_filled, rules)
