-- `reader::classes::object_class_name` meets its contract.
-- Assumes nothing.
use Rattle.reader.specs.Queries.{object_class_text}
use Rattle.reader.proofs.NameLaws.{refused, text_by}
use Rattle.reader.proofs.classes.object_class_name.Goals as goal

pub returns-in_err-metadata : goal.returns-in_err-metadata
unfolding object_class_text
returns-in_err-metadata c = refused _ _ _ _ c.from_residual.ensures (rw (← c.in_err-metadata.ensures.0))

pub returns-in_err-object : goal.returns-in_err-object
unfolding object_class_text
returns-in_err-object c =
    refused _ _ _ _ c.from_residual-in_err-object.ensures (rw (← c.in_ok-metadata.ensures.0, ← c.in_err-object.ensures.checked))

pub returns : goal.returns
unfolding object_class_text
returns c =
    let o = c.in_ok-object.ensures in
    let r = rw (o.is.0, o.is.1) at c.record.ensures in
    text_by (rw (← c.in_ok-metadata.ensures.0, ← o.checked) (rw (← c.in_ok-metadata.ensures.1, r))) c.write_class.ensures
