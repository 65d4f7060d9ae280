-- `writer::string_object::measure_payload` meets its contract.
-- Assumes nothing.
use mathlib.Core.Path.{◌∙◌}
use native.Mathlib.Omega.{arith}
use Rattle.text.proofs.ReplyLaws.{handed_on}
use Rattle.writer.proofs.checks.Measure.{payload_refused, payload_shapeless, payload_long, payload_fits}
use Rattle.writer.proofs.string_object.measure_payload.Goals as goal

pub returns-in_err-units : goal.returns-in_err-units
returns-in_err-units c =
    handed_on c.from_residual.result c.in_err-units.field-0.0 c.from_residual.ensures
    ∙ payload_refused _ _ _ (omega arith) c.in_err-units.ensures

pub returns-then-not-is_shape : goal.returns-then-not-is_shape
returns-then-not-is_shape c = rw c.len-n.ensures (payload_shapeless _ _ _ (omega arith) c.in_ok-units.ensures (rw c.len-n.ensures at c.is_shape.ensures) c.if-not-is_shape.true)

pub returns-then-words-gt-MAX_PAYLOAD_WORDS : goal.returns-then-words-gt-MAX_PAYLOAD_WORDS
returns-then-words-gt-MAX_PAYLOAD_WORDS c =
    payload_long _ _ _ (omega arith) c.in_ok-units.ensures (rw c.len-n.ensures at c.is_shape.ensures) (omega arith) c.if-not-is_shape.false c.if-words-gt-MAX_PAYLOAD_WORDS.true

pub returns : goal.returns
returns c =
    payload_fits _ _ _ (omega arith) c.in_ok-units.ensures (rw c.len-n.ensures at c.is_shape.ensures) (omega arith) c.if-not-is_shape.false c.if-words-gt-MAX_PAYLOAD_WORDS.false
