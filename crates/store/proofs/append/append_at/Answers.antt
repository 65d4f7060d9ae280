-- `store::append::append_at` meets its contract.
-- Assumes nothing.
use Rattle.store.specs.Model.{call}
use Rattle.store.proofs.AppendLaws.{edit_refused, append_done}
use Rattle.store.proofs.append.append_at.Goals as goal

pub returns-in_err-accepted : goal.returns-in_err-accepted
unfolding call
returns-in_err-accepted c = edit_refused _ _ _ _ _ _ _ _ c.from_residual.ensures c.in_err-accepted.ensures

pub returns : goal.returns
unfolding call
returns c =
    append_done _ _ _ _ _ _ _ _ c.in_ok-accepted.ensures c.build_string_filewrapper_metadata.ensures c.to_usize-n.ensures c.put_entry.ensures c.to_usize.ensures c.put.ensures
