-- `reader::saveobj::put_payload` meets its contract.
-- Assumes nothing.
use Rattle.reader.proofs.saveobj.Payload.{put_fits, put_writes, put_never}
use Rattle.reader.proofs.saveobj.put_payload.Goals as goal

pub put-requires : goal.put-requires
put-requires c = rw c.in-Ok.ensures.lent (put_fits _ _ _ _ c.requires c.in-Ok.ensures.header)

pub returns-in-Ok : goal.returns-in-Ok
returns-in-Ok c = put_writes _ _ _ _ c.requires c.in-Ok.ensures.header (rw c.in-Ok.ensures.lent at c.put.ensures)

pub returns-in-Err : goal.returns-in-Err
returns-in-Err c = put_never _ _ _ _ c.requires c.in-Err.ensures.header
