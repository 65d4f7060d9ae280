-- `reader::listing::start_listing` meets its contract.
-- Assumes nothing.
use Rattle.reader.proofs.listing.Laws.{start_short, start_passed}
use Rattle.reader.proofs.listing.start_listing.Goals as goal

pub returns-then-room-count : goal.returns-then-room-count
returns-then-room-count c =
    rw c.in_ok-metadata.ensures.1 at (start_short c.in_ok-metadata.metadata c.in_ok-falls.ensures _ c.saturating_sub-count.ensures c.if-room-count.true)

pub returns : goal.returns
returns c =
    rw c.in_ok-metadata.ensures.1
    at (start_passed c.in_ok-metadata.metadata c.in_ok-falls.ensures _ c.saturating_sub-count.ensures c.if-room-count.false c.plan.result c.plan.ensures)
