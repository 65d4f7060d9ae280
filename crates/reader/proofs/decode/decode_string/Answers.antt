-- `reader::decode::decode_string` meets its contract.
-- Assumes nothing.
use native.Mathlib.Omega.{arith}
use Prim.Native.Nat.{◌+◌, ◌-◌}
use lib.ListN.{drop}
use lib.Seq.{length-take-le}
use Rattle.reader.proofs.decode.Laws.{named_blob, named_directory, named_metadata, named_ids}
use Rattle.reader.proofs.opaque.Laws.{opaque_passed}
use Rattle.reader.proofs.saveobj.Payload.{hands_on}
use Rattle.reader.proofs.decode.decode_string.Goals as goal

pub returns-in_err-parse : goal.returns-in_err-parse
returns-in_err-parse c =
    hands_on _ _ _ c.from_residual.result c.in_err-parse.field-0.0 c.from_residual.ensures (named_blob _ _ _ _ _ c.in_err-parse.ensures)

pub returns-in_err-cells : goal.returns-in_err-cells
returns-in_err-cells c =
    hands_on _ _ _ c.from_residual-in_err-cells.result c.in_err-cells.field-0.0 c.from_residual-in_err-cells.ensures
    (named_directory _ _ _ _ _ c.in_ok-parse.ensures c.in_err-cells.ensures.checked)

pub returns-in_err-m : goal.returns-in_err-m
returns-in_err-m c =
    hands_on _ _ _ c.from_residual-in_err-m.result c.in_err-m.field-0.0 c.from_residual-in_err-m.ensures
    (named_metadata _ _ _ _ _ c.in_ok-parse.ensures c.in_ok-cells.ensures.checked c.in_err-m.ensures)

pub overflow_add-ids : goal.overflow_add-ids
overflow_add-ids c =
    let t = opaque_passed _ c.in_ok-m.ensures in
    omega (arith, t.there, t.few)

pub offset_bounds-metadata-m : goal.offset_bounds-metadata-m
offset_bounds-metadata-m c =
    let t = opaque_passed _ c.in_ok-m.ensures in
    omega (arith, t.there, t.few)

pub slice_bounds-ids-end : goal.slice_bounds-ids-end
slice_bounds-ids-end c = (opaque_passed _ c.in_ok-m.ensures).there

pub write_ids-requires : goal.write_ids-requires
write_ids-requires c =
    let t = opaque_passed _ c.in_ok-m.ensures in
    omega (arith, t.there, t.few, length-take-le (c.in_ok-m.m.first_id + c.in_ok-m.m.ids - c.in_ok-m.m.first_id) (drop c.in_ok-m.m.first_id c.args.metadata.now))

pub returns : goal.returns
returns c = named_ids _ _ _ _ _ c.in_ok-parse.ensures c.in_ok-cells.ensures.checked c.in_ok-m.ensures c.in_ok-cells.ensures.lent c.write_ids.ensures
