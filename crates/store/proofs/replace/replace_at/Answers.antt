-- `store::replace::replace_at` meets its contract.
-- Assumes nothing.
use Rattle.store.specs.Model.{call}
use Rattle.store.proofs.AppendLaws.{edit_refused}
use Rattle.store.proofs.ReplaceLaws.{cell_fits, pair_fits, replace_done}
use borrow.Author.Rules.{rules}
use Rattle.store.proofs.replace.replace_at.Goals as goal

pub returns-in_err-accepted : goal.returns-in_err-accepted
unfolding call
returns-in_err-accepted c = edit_refused _ _ _ _ _ _ _ _ c.from_residual.ensures c.in_err-accepted.ensures

pub replace_words-requires : goal.replace_words-requires
replace_words-requires c =
    cell_fits _ _ _ _ _ _ _ _ _ c.in_ok-accepted.ensures c.to_usize-k.ensures c.to_usize.ensures c.to_usize-at.ensures c.to_usize-2.ensures

pub replace_pair-requires : goal.replace_pair-requires
replace_pair-requires c = pair_fits _ _ _ _ _ _ _ _ _ c.in_ok-accepted.ensures c.to_usize-k.ensures (search rules) c.to_usize-3.ensures

pub returns : goal.returns
unfolding call
returns c =
    replace_done _ _ _ _ _ _ _ _ _ c.in_ok-accepted.ensures c.to_usize-k.ensures c.to_usize-at.ensures c.to_usize-2.ensures c.to_usize.ensures
    c.to_usize-3.ensures c.replace_words.ensures c.replace_pair.ensures
