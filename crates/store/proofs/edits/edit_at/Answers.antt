-- `store::edits::edit_at` meets its contract.
-- Assumes nothing.
use Rattle.store.specs.Model.{call}
use Rattle.store.proofs.edits.edit_at.Goals as goal

pub returns-in-Append : goal.returns-in-Append
unfolding call
returns-in-Append c = rw c.in-Append.is c.append_at.ensures

pub returns-in-Replace : goal.returns-in-Replace
unfolding call
returns-in-Replace c = rw c.in-Replace.is c.replace_at.ensures
