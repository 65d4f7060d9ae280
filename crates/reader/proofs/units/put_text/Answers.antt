-- `reader::units::put_text` meets its contract.
-- Assumes nothing.
use mathlib.Core.Path.{ap}
use mathlib.Core.Bool.{not}
use native.Mathlib.Omega.{arith}
use Rattle.reader.proofs.units.Text.{write_start, ascii_room, ascii_turn, two_fit, two_end, two_turn, three_fit, three_end, three_turn, pair_there, pair_fits, pair_end, pair_turn, write_last}
use borrow.Author.Rules.{rules}
use Rattle.reader.proofs.units.put_text.Goals as goal

pub loop-i-init : goal.loop-i-init
loop-i-init c = search (write_start, rules)

pub bounds-out-o : goal.bounds-out-o
bounds-out-o c = search (ascii_room, rules)

pub loop-i-preserved-then-unit-lt128 : goal.loop-i-preserved-then-unit-lt128
loop-i-preserved-then-unit-lt128 c = search (ascii_turn, rules)

pub put_two-o-requires : goal.put_two-o-requires
put_two-o-requires c = search (two_fit, rules)

pub overflow_add-o-then-unit-lt2048 : goal.overflow_add-o-then-unit-lt2048
overflow_add-o-then-unit-lt2048 c =
    let f = two_end c.loop-i.invariant c.loop-i-test.true c.unit_at-unit.ensures c.if-unit-lt2048.true c.put_two-o.ensures in
    omega arith

pub loop-i-preserved-then-unit-lt2048 : goal.loop-i-preserved-then-unit-lt2048
loop-i-preserved-then-unit-lt2048 c = search (two_turn, rules)

pub put_three-o-requires : goal.put_three-o-requires
put_three-o-requires c = search (three_fit, rules)

pub overflow_add-o-then-not-is_surrogate : goal.overflow_add-o-then-not-is_surrogate
overflow_add-o-then-not-is_surrogate c =
    let f = three_end c.loop-i.invariant c.loop-i-test.true c.unit_at-unit.ensures c.is_surrogate.ensures (ap not c.if-not-is_surrogate.true) c.put_three-o.ensures in
    omega arith

pub loop-i-preserved-then-not-is_surrogate : goal.loop-i-preserved-then-not-is_surrogate
loop-i-preserved-then-not-is_surrogate c = search (three_turn, rules)

pub unit_at-requires : goal.unit_at-requires
unit_at-requires c = search (pair_there, rules)

pub put_pair-o-requires : goal.put_pair-o-requires
put_pair-o-requires c = search (pair_fits, rules)

pub overflow_add-o-in-loop-i : goal.overflow_add-o-in-loop-i
overflow_add-o-in-loop-i c =
    let f =
    pair_end c.loop-i.invariant c.loop-i-test.true c.unit_at-unit.ensures c.is_surrogate.ensures (ap not c.if-not-is_surrogate.false) c.unit_at.ensures c.put_pair-o.ensures in
    omega arith

pub loop-i-preserved : goal.loop-i-preserved
loop-i-preserved c = search (pair_turn, rules)

pub returns : goal.returns
returns c = search (write_last, rules)
