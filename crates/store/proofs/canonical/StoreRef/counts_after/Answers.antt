-- `store::canonical::StoreRef::counts_after` meets its contract.
-- Assumes nothing.
use Rattle.store.proofs.CheckLaws.{old_inside}
use Rattle.store.proofs.canonical.StoreRef.counts_after.Goals as goal

-- `search` finds it too; written out, it says of another count where the two differ
pub returns-in-Append : goal.returns-in-Append
returns-in-Append c = rw c.in-Append.is c.of.ensures

pub overflow_sub-self : goal.overflow_sub-self
overflow_sub-self c = old_inside c.requires.store c.requires.id c.in-Replace.is c.to_usize.ensures
