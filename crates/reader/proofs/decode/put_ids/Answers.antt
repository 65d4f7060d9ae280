-- `reader::decode::put_ids` meets its contract.
-- Assumes nothing.
use Rattle.reader.proofs.decode.Laws.{puts_start, puts_fits, puts_turn}
use Rattle.reader.proofs.saveobj.Payload.{at_origin}
use Rattle.reader.proofs.decode.put_ids.Goals as goal

pub loop-id-init : goal.loop-id-init
loop-id-init c = rw (at_origin c.default-at.ensures) (puts_start _ _ _ _ _ _)

pub put_id-at-requires : goal.put_id-at-requires
put_id-at-requires c = puts_fits _ _ _ _ _ _ c.requires c.loop-id.invariant c.loop-id-test.true

pub loop-id-preserved : goal.loop-id-preserved
loop-id-preserved c = puts_turn _ _ _ _ _ _ c.requires c.loop-id.invariant c.loop-id-test.true c.put_id-at.ensures
