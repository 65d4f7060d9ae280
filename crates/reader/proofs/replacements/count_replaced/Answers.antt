-- `reader::replacements::count_replaced` meets its contract.
-- Assumes nothing.
use Rattle.reader.proofs.replacements.Laws.{rows_sound, counting_start, counting_turn, counting_last}
use native.Mathlib.Omega.{arith}
use borrow.Author.Rules.{rules}
use Rattle.reader.proofs.replacements.count_replaced.Goals as goal

pub returns-then-is_sound : goal.returns-then-is_sound
returns-then-is_sound c = search (rows_sound, rules)

pub loop-walk-init : goal.loop-walk-init
loop-walk-init c = counting_start c.stored-walk.ensures.of (omega (arith, c.stored-walk.ensures.first))

pub loop-walk-preserved : goal.loop-walk-preserved
loop-walk-preserved c =
    counting_turn c.loop-walk.invariant c.next_chunk-chunk.ensures.same c.next_chunk-chunk.ensures.first c.next_chunk-chunk.ensures.end c.next_chunk-chunk.ensures.fills c.recount_rows.ensures

pub returns : goal.returns
returns c = search (counting_last, rules)
