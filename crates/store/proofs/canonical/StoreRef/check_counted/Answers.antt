-- `store::canonical::StoreRef::check_counted` meets its contract.
-- Assumes nothing.
use mathlib.Core.Path.{◌∙◌}
use Rattle.text.proofs.ReplyLaws.{handed_on}
use Rattle.store.specs.Edits.{check_counted}
use Rattle.store.proofs.CheckLaws.{cut_checked}
use Rattle.store.proofs.canonical.StoreRef.check_counted.Goals as goal

pub returns-in_err-check_directory : goal.returns-in_err-check_directory
unfolding check_counted
returns-in_err-check_directory c = handed_on _ _ c.from_residual.ensures ∙ rw (← c.in_err-check_directory.ensures)

pub is_canonical-requires : goal.is_canonical-requires
is_canonical-requires c = cut_checked _ c.requires c.in_ok-check_directory.ensures

pub returns-then-not-is_canonical : goal.returns-then-not-is_canonical
unfolding check_counted
returns-then-not-is_canonical c = rw (← c.in_ok-check_directory.ensures, ← c.if-not-is_canonical.ensures)

pub returns : goal.returns
unfolding check_counted
returns c = rw (← c.in_ok-check_directory.ensures, ← c.if-not-is_canonical.ensures)
