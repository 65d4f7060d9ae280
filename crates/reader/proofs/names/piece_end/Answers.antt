-- `reader::names::piece_end` meets its contract.
-- Assumes nothing.
use Rattle.reader.proofs.names.Pieces.{run_zero, run_byte, run_last}
use borrow.Author.Rules.{rules}
use Rattle.reader.proofs.names.piece_end.Goals as goal

pub returns-then-rest-i-eq0 : goal.returns-then-rest-i-eq0
returns-then-rest-i-eq0 c = search (run_zero, rules)

pub loop-i-preserved : goal.loop-i-preserved
loop-i-preserved c = search (run_byte, rules)

pub returns : goal.returns
returns c = search (run_last, rules)
