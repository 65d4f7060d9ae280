-- `printing::output::Output::make_room`: there is room as it stands, or in the empty buffer.
-- Assumes nothing.
use borrow.Author.Tests.{le-leb, lt-leb}
use Rattle.printing.specs.Output.{start_of}
use Rattle.printing.proofs.output.Output.make_room.Goals as goal

pub returns-then-self-ge-ROOM-clause-place : goal.returns-then-self-ge-ROOM-clause-place
unfolding start_of
returns-then-self-ge-ROOM-clause-place g c = simp (le-leb _ _ c.if-self-ge-ROOM.true)

pub returns-clause-place : goal.returns-clause-place
unfolding start_of
returns-clause-place g c = simp (lt-leb _ _ c.if-self-ge-ROOM.false) c.flush.ensures.used
