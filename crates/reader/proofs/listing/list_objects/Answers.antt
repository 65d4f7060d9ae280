-- `reader::listing::list_objects` meets its contract.
-- Assumes nothing.
use Rattle.reader.proofs.listing.Laws.{fill_start, fill_row}
use borrow.Author.Rules.{rules}
use Rattle.reader.proofs.listing.list_objects.Goals as goal

pub loop-i-init : goal.loop-i-init
loop-i-init c = search (fill_start, rules)

pub loop-i-preserved : goal.loop-i-preserved
loop-i-preserved c =
    let l = c.in_ok-listing.ensures in
    fill_row c.loop-i.invariant (rw (← l.is.blob) at l.reply) c.loop-i-test.true c.next_object-step.ensures
