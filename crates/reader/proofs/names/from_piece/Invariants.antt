-- What the loop of `reader::names::from_piece` keeps: the heap from piece `counter` on.
-- Assumes nothing.
use Rattle.reader.proofs.names.Pieces.{Seeking}
use Rattle.reader.proofs.names.from_piece.Given as goal

abbrev pub invariant-loop : goal.invariant-loop
invariant-loop l = Seeking l.heap l.index l.counter l.rest
