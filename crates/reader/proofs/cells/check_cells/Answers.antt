-- `reader::cells::check_cells` meets its contract.
-- Assumes nothing.
use Rattle.reader.proofs.cells.Laws.{cells_stop, follows_fits, cells_turn, cells_last}
use borrow.Author.Rules.{rules}
use native.Mathlib.Omega.{arith}
use Rattle.reader.proofs.cells.check_cells.Goals as goal

pub returns-then-not-follows : goal.returns-then-not-follows
returns-then-not-follows c = search (cells_stop, rules)

pub overflow_add-end : goal.overflow_add-end
overflow_add-end c = search (follows_fits, rules)

pub loop-i-preserved : goal.loop-i-preserved
loop-i-preserved c =
    cells_turn _ _ _ c.loop-i.invariant c.as_chunks.ensures.front (omega (arith, c.as_chunks.ensures.front_len, c.loop-i-test.true)) c.follows.ensures c.to_usize-offset.ensures c.to_usize-len.ensures (cc)

pub returns : goal.returns
returns c = search (cells_last, rules)
