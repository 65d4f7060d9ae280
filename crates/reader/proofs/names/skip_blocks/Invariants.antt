-- What the loop of `reader::names::skip_blocks` keeps, and its measure.
-- Assumes nothing.
use lib.ListN.{length}
use Rattle.reader.specs.Stages.Names.{Skips}
use Rattle.reader.proofs.names.skip_blocks.Given as goal

abbrev pub invariant-loop-block : goal.invariant-loop-block
invariant-loop-block l = Skips l.bytes l.most l.zeros l.rest

abbrev pub decreases-loop-block : goal.decreases-loop-block
decreases-loop-block l = length l.rest
