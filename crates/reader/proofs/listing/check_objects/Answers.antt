-- `reader::listing::check_objects` meets its contract.
-- Assumes nothing.
use Rattle.reader.proofs.listing.Laws.{passing_turn}
use Rattle.reader.proofs.listing.check_objects.Goals as goal

pub loop-i-preserved : goal.loop-i-preserved
loop-i-preserved c = passing_turn c.loop-i.invariant c.loop-i-test.true c.record-object.ensures c.in_ok-check_block.ensures
