-- What the loop of `reader::blocks::block_after` keeps: it stands at block `counter`.
-- Assumes nothing.
use mathlib.Core.Path.{◌≡◌}
use Rattle.reader.specs.Blocks.{block_at}
use Rattle.reader.proofs.blocks.block_after.Given as goal

abbrev pub invariant-loop : goal.invariant-loop
invariant-loop l = l.i ≡ block_at l.size l.blob l.at l.counter
