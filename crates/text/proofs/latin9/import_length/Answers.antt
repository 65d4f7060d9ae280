-- `text::latin9::import_length` meets its contract.
-- Assumes nothing.
use Rattle.text.proofs.latin9.Import.{measured_past, measured_short, measured_fits}
use Rattle.text.proofs.latin9.import_length.Goals as goal

pub returns-in_default : goal.returns-in_default
returns-in_default c = measured_past _ _ _ c.more_in.ensures c.in_default.ensures c.ranges.room.fits

pub returns-then-room-n : goal.returns-then-room-n
returns-then-room-n c = measured_short _ _ _ c.more_in.ensures c.in-Some.ensures c.if-room-n.true

pub returns : goal.returns
returns c = measured_fits _ _ _ c.more_in.ensures c.in-Some.ensures.1 c.if-room-n.false
