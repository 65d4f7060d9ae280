-- `reader::string_objects::decode_string_object` meets its contract.
-- Assumes nothing.
use Rattle.reader.proofs.saveobj.Payload.{hands_on}
use Rattle.reader.proofs.string_objects.Laws.{object_refused, object_directory, object_failed, object_decoded, object_empty}
use Rattle.reader.proofs.string_objects.decode_string_object.Goals as goal

pub returns-in_err-metadata : goal.returns-in_err-metadata
returns-in_err-metadata c = hands_on _ _ _ c.from_residual.result c.in_err-metadata.field-0.0 c.from_residual.ensures (object_refused _ _ _ _ _ c.in_err-metadata.ensures.0)

pub returns-in_err-cells : goal.returns-in_err-cells
returns-in_err-cells c =
    hands_on _ _ _ c.from_residual-in_err-cells.result c.in_err-cells.field-0.0 c.from_residual-in_err-cells.ensures
    (object_directory _ _ _ _ _ c.in_ok-metadata.ensures.0 c.in_err-cells.ensures.checked)

pub returns-in_err-property : goal.returns-in_err-property
returns-in_err-property c =
    hands_on _ _ _ c.from_residual-in_err-property.result c.in_err-property.field-0.0 c.from_residual-in_err-property.ensures
    (object_failed _ _ _ _ _ c.in_ok-metadata.ensures.0 c.in_ok-cells.ensures.checked (rw c.in_ok-metadata.ensures.1 at c.in_err-property.ensures))

pub returns-in-Some : goal.returns-in-Some
returns-in-Some c =
    object_decoded _ _ _ _ _ c.in_ok-metadata.ensures.0 c.in_ok-cells.ensures.checked (rw c.in_ok-metadata.ensures.1 at c.in_ok-property.ensures) c.in_ok-cells.ensures.lent c.in-Some.is c.decode_property.ensures

pub returns-in-None : goal.returns-in-None
returns-in-None c =
    object_empty _ _ _ _ _ c.in_ok-metadata.ensures.0 c.in_ok-cells.ensures.checked (rw c.in_ok-metadata.ensures.1 at c.in_ok-property.ensures) c.in-None.is _ c.write_empty.ensures
