-- `printing::lines::put_escaped` meets its contract.
-- Assumes nothing.
use native.Mathlib.Omega.{arith}
use Rattle.printing.proofs.lines.Laws.{write_start, write_in, write_room, write_fits, write_turn, write_last}
use borrow.Author.Rules.{rules}
use Rattle.printing.proofs.lines.put_escaped.Goals as goal

pub loop-byte-init : goal.loop-byte-init
loop-byte-init c = search (write_start, rules)

pub slice_bounds-put_escape-count : goal.slice_bounds-put_escape-count
slice_bounds-put_escape-count c = search (write_in, rules)

pub slice_bounds-put_escape-start : goal.slice_bounds-put_escape-start
slice_bounds-put_escape-start c = search (write_in, rules)

pub put_escape-o-requires : goal.put_escape-o-requires
put_escape-o-requires c = search (write_room, rules)

pub overflow_add-o : goal.overflow_add-o
overflow_add-o c = omega (arith, write_fits _ c.loop-byte.invariant c.loop-byte-test.true c.put_escape-o.ensures)

pub loop-byte-preserved : goal.loop-byte-preserved
loop-byte-preserved c = search (write_turn, rules)

pub returns : goal.returns
returns c = search (write_last, rules)
