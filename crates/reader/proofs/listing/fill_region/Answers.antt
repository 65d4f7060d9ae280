-- `reader::listing::fill_region` meets its contract.
-- Assumes nothing.
use Rattle.reader.proofs.listing.Index.{filling_has, filling_turn, filling_last}
use borrow.Author.Rules.{rules}
use Rattle.reader.proofs.listing.fill_region.Goals as goal

pub seek-cursor-requires : goal.seek-cursor-requires
seek-cursor-requires c = search (filling_has, rules)

pub loop-j-preserved : goal.loop-j-preserved
loop-j-preserved c = search (filling_turn, rules)

pub returns : goal.returns
returns c = search (filling_last, rules)
