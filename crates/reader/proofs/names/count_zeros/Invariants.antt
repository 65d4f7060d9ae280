-- What the loop of `reader::names::count_zeros` keeps.
-- Assumes nothing.
use mathlib.Core.Path.{◌≡◌}
use Prim.Native.Nat.{◌≤◌}
use lib.ListN.{take}
use Rattle.reader.specs.Stages.Names.{zeros}
use Rattle.reader.proofs.names.count_zeros.Given as goal

abbrev pub invariant-loop-byte : goal.invariant-loop-byte
invariant-loop-byte l = (l.n ≤ l.byte-index) × (l.n ≡ zeros (take l.byte-index l.block))
