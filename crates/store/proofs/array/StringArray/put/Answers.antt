-- `store::array::StringArray::put` meets its contract.
-- Assumes nothing.
use Rattle.store.proofs.AppendLaws.{array_put}
use Rattle.store.proofs.array.StringArray.put.Goals as goal

pub returns : goal.returns
returns c = array_put _ _ _ c.requires c.encode_string_saveobj_payload.ensures
