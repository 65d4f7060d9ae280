-- `store::canonical::StoreRef::check` meets its contract.
-- Assumes nothing.
use Rattle.store.specs.Edits.{check_store}
use Rattle.store.proofs.canonical.StoreRef.check.Goals as goal

pub returns-in_default : goal.returns-in_default
unfolding check_store
returns-in_default c = rw c.in_default.ensures

pub returns : goal.returns
unfolding check_store
returns c = rw (c.in-Some.ensures.inside, ← c.in-Some.ensures.is) c.check_counted.ensures
