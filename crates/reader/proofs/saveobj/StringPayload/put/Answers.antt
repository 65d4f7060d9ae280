-- `reader::saveobj::StringPayload::put` meets its contract.
-- Assumes nothing.
use native.Mathlib.Omega.{arith}
use Rattle.reader.proofs.saveobj.Strings.{write_start, write_fits, write_unit, write_end, write_turn, write_last}
use borrow.Author.Rules.{rules}
use Rattle.reader.proofs.saveobj.StringPayload.put.Goals as goal

pub loop-i-init : goal.loop-i-init
loop-i-init c = search (write_start, rules)

pub put_text-bytes-requires : goal.put_text-bytes-requires
put_text-bytes-requires c = search (write_fits, rules)

pub overflow_add-end : goal.overflow_add-end
overflow_add-end c =
    let e = write_end _ _ _ _ _ _ c.requires c.loop-i.invariant c.loop-i-test.true c.unit_count-count.ensures c.put_text-bytes.ensures in
    omega arith

pub overflow_add-unit : goal.overflow_add-unit
overflow_add-unit c = search (write_unit, rules)

pub loop-i-preserved : goal.loop-i-preserved
loop-i-preserved c = search (write_turn, rules)

pub returns : goal.returns
returns c = search (write_last, rules)
