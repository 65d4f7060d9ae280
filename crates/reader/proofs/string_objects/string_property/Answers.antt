-- `reader::string_objects::string_property` meets its contract.
-- Assumes nothing.
use mathlib.Core.Path.{◌∙◌}
use Rattle.text.proofs.ReplyLaws.{handed_on}
use Rattle.reader.proofs.string_objects.Laws.{property_failed, property_class, property_chosen}
use Rattle.reader.proofs.string_objects.string_property.Goals as goal

pub returns-in_err-object : goal.returns-in_err-object
returns-in_err-object c =
    handed_on c.from_residual.result c.in_err-object.field-0.0 c.from_residual.ensures ∙ property_failed _ _ _ c.in_err-object.ensures.checked

pub returns-in_err-check_string_class : goal.returns-in_err-check_string_class
returns-in_err-check_string_class c =
    let o = c.in_ok-object.ensures in
    handed_on c.from_residual-in_err-check_string_class.result c.in_err-check_string_class.field-0.0 c.from_residual-in_err-check_string_class.ensures
    ∙ property_class _ _ _ o.checked (rw (o.is.0, o.is.1) at c.record.ensures) c.in_err-check_string_class.ensures

pub returns : goal.returns
returns c =
    let o = c.in_ok-object.ensures in
    property_chosen _ _ _ o.checked (rw (o.is.0, o.is.1) at c.record.ensures) c.in_ok-check_string_class.ensures (rw (o.is.0, o.is.1) at c.choose_property.ensures)
