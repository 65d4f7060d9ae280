-- `reader::string_objects::decode_property` meets its contract.
-- Assumes nothing.
use Rattle.reader.proofs.saveobj.Payload.{refuses, hands_on}
use Rattle.reader.proofs.string_objects.Laws.{property_other, property_refused, property_decoded}
use Rattle.reader.proofs.string_objects.decode_property.Goals as goal

pub returns-then-property-ne1 : goal.returns-then-property-ne1
returns-then-property-ne1 c = refuses _ _ _ (property_other _ _ _ _ c.if-property-ne1.true)

pub returns-in_err-payload : goal.returns-in_err-payload
returns-in_err-payload c =
    hands_on _ _ _ c.from_residual.result c.in_err-payload.field-0.0 c.from_residual.ensures
    (property_refused _ _ _ _ c.if-property-ne1.false c.in_err-payload.ensures)

pub returns : goal.returns
returns c = property_decoded _ _ _ _ c.if-property-ne1.false c.in_ok-payload.ensures c.decode_string_saveobj.ensures
