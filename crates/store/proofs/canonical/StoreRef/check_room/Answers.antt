-- `store::canonical::StoreRef::check_room` meets its contract.
-- Assumes nothing.
use mathlib.Core.Path.{◌∙◌}
use Rattle.store.specs.Edits.{check_room}
use Rattle.text.proofs.ReplyLaws.{handed_on}
use Rattle.store.proofs.canonical.StoreRef.check_room.Goals as goal

pub returns-in_err-check_output : goal.returns-in_err-check_output
unfolding check_room
returns-in_err-check_output c = handed_on _ _ c.from_residual.ensures ∙ rw (← c.requires.bytes, ← c.in_err-check_output.ensures)

pub returns-in_err-check_output-2 : goal.returns-in_err-check_output-2
unfolding check_room
returns-in_err-check_output-2 c = handed_on _ _ c.from_residual-in_err-check_output-2.ensures ∙ rw (← c.requires.bytes, ← c.in_ok-check_output.ensures, ← c.in_err-check_output-2.ensures)

pub returns-in_err-check_output-3 : goal.returns-in_err-check_output-3
unfolding check_room
returns-in_err-check_output-3 c =
    handed_on _ _ c.from_residual-in_err-check_output-3.ensures ∙ rw (← c.requires.bytes, ← c.in_ok-check_output.ensures, ← c.in_ok-check_output-2.ensures, ← c.in_err-check_output-3.ensures)

pub returns : goal.returns
unfolding check_room
returns c = c.check_output-4.ensures ∙ rw (← c.requires.bytes, ← c.in_ok-check_output.ensures, ← c.in_ok-check_output-2.ensures, ← c.in_ok-check_output-3.ensures)
