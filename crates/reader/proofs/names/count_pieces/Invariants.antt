-- What the loop of `reader::names::count_pieces` keeps.
-- Assumes nothing.
use mathlib.Core.Path.{◌≡◌}
use Prim.Native.Nat.{◌≤◌}
use lib.ListN.{take}
use Rattle.reader.specs.Stages.Names.{zeros}
use Rattle.reader.proofs.names.count_pieces.Given as goal

abbrev pub invariant-loop-byte : goal.invariant-loop-byte
invariant-loop-byte l = (l.last ≤ l.byte-index) × (l.last ≡ zeros (take l.byte-index l.blocks.rest.now))
