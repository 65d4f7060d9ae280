-- `writer::string_object::encode_string_saveobj_payload` meets its contract.
-- Assumes nothing.
use native.Mathlib.Omega.{arith}
use Rattle.text.proofs.ReplyLaws.{writes_refused}
use Rattle.writer.proofs.string_object.Payload.{encode_refused, encode_short, encode_fits, encode_written}
use Rattle.writer.proofs.string_object.encode_string_saveobj_payload.Goals as goal

pub returns-in_err-n : goal.returns-in_err-n
returns-in_err-n c = writes_refused _ _ c.from_residual.result c.in_err-n.field-0.0 c.from_residual.ensures (encode_refused _ _ _ _ c.in_err-n.ensures)

pub returns-then-words-n : goal.returns-then-words-n
returns-then-words-n c = encode_short _ _ _ _ c.in_ok-n.ensures (omega arith) c.if-words-n.true

pub put_payload-requires : goal.put_payload-requires
put_payload-requires c = encode_fits _ _ _ _ c.in_ok-n.ensures c.if-words-n.false

pub returns : goal.returns
returns c = encode_written _ _ _ _ c.in_ok-n.ensures c.if-words-n.false c.put_payload.ensures
