-- `reader::decode::put_id` meets its contract.
-- Assumes nothing.
use Rattle.reader.proofs.decode.Laws.{id_fits, id_writes, id_never}
use Rattle.reader.proofs.decode.put_id.Goals as goal

pub put_payload-requires : goal.put_payload-requires
put_payload-requires c = id_fits _ _ _ _ c.in-Ok.ensures c.requires

pub returns-in-Ok : goal.returns-in-Ok
returns-in-Ok c = id_writes _ _ _ _ c.in-Ok.ensures c.put_payload.ensures

pub returns-in-Err : goal.returns-in-Err
returns-in-Err c = id_never _ _ _ _ c.in-Err.ensures c.requires
