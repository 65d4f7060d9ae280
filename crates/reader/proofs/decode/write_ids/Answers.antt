-- `reader::decode::write_ids` meets its contract.
-- Assumes nothing.
use Rattle.reader.proofs.decode.Laws.{ids_values}
use Rattle.reader.proofs.saveobj.Payload.{hands_on_short, decode_written}
use Rattle.reader.proofs.decode.write_ids.Goals as goal

pub check_outputs-requires : goal.check_outputs-requires
check_outputs-requires c = ids_values _ _ _ _ c.requires c.in_ok-size.ensures

pub returns-in_err-check_outputs : goal.returns-in_err-check_outputs
returns-in_err-check_outputs c =
    hands_on_short _ _ _ c.in_ok-size.ensures c.from_residual-in_err-check_outputs.result c.in_err-check_outputs.field-0.0
    c.from_residual-in_err-check_outputs.ensures c.in_err-check_outputs.ensures

pub returns : goal.returns
returns c = decode_written _ _ _ c.in_ok-size.ensures c.in_ok-check_outputs.ensures c.put_ids.ensures
