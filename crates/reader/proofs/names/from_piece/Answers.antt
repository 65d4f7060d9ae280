-- `reader::names::from_piece` meets its contract.
-- Assumes nothing.
use Rattle.reader.proofs.names.Pieces.{seek_start, seek_ended, seek_turn, seek_end}
use Prim.Native.Nat.{◌+◌}
use native.Mathlib.Omega.{arith}
use Rattle.std.proofs.lemmas.List.{take_rest}
use borrow.Author.Rules.{rules}
use Rattle.reader.proofs.names.from_piece.Goals as goal

pub loop-init : goal.loop-init
loop-init c = search (seek_start, rules)

pub overflow_add-rest : goal.overflow_add-rest
overflow_add-rest c = omega (arith, seek_ended c.loop.invariant c.loop-test.true c.piece_end.ensures, c.loop.invariant)

pub slice_bounds-rest-count : goal.slice_bounds-rest-count
slice_bounds-rest-count c = seek_ended c.loop.invariant c.loop-test.true c.piece_end.ensures

pub slice_bounds-rest-start : goal.slice_bounds-rest-start
slice_bounds-rest-start c = let h = seek_ended c.loop.invariant c.loop-test.true c.piece_end.ensures in search rules

pub loop-preserved : goal.loop-preserved
loop-preserved c = seek_turn c.loop.invariant c.loop-test.true c.piece_end.ensures (take_rest c.loop.rest.now (c.piece_end.result + 1))

pub returns : goal.returns
returns c = search (seek_end, rules)
