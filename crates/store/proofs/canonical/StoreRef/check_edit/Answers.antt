-- `store::canonical::StoreRef::check_edit` meets its contract.
-- Assumes nothing.
use mathlib.Core.Path.{◌∙◌}
use native.Mathlib.Omega.{arith}
use Rattle.writer.proofs.string_object.Payload.{measured_failed}
use Rattle.store.proofs.CallLaws.{call_is}
use Rattle.store.proofs.CheckLaws.{edit_measured, many, no_room, passes, refused}
use Rattle.store.proofs.canonical.StoreRef.check_edit.Goals as goal

pub returns-in_err-check : goal.returns-in_err-check
returns-in_err-check c = refused _ _ _ _ _ c.from_residual.ensures (call_is _ _ _ _ _ ∙ rw (← c.in_err-check.ensures))

pub returns-in_err-check_id : goal.returns-in_err-check_id
returns-in_err-check_id c =
    refused _ _ _ _ _ c.from_residual-in_err-check_id.ensures (call_is _ _ _ _ _ ∙ rw (← c.in_ok-check.ensures, ← c.in_err-check_id.ensures))

pub returns-in_err-len : goal.returns-in_err-len
returns-in_err-len c =
    refused _ _ _ _ _ c.from_residual-in_err-len.ensures
    (call_is _ _ _ _ _ ∙ rw (← c.in_ok-check.ensures, ← c.in_ok-check_id.ensures, measured_failed _ _ _ c.in_err-len.ensures))

pub counts_after-counts-requires : goal.counts_after-counts-requires
counts_after-counts-requires c =
    let m = edit_measured _ _ c.args.array c.in_ok-check.ensures c.in_ok-check_id.ensures c.in_ok-len.ensures in
    record { store = m.store; id = m.id; most = m.array.most }

pub returns-then-counts-gt-MAX_OBJECTS : goal.returns-then-counts-gt-MAX_OBJECTS
returns-then-counts-gt-MAX_OBJECTS c =
    many _ _ c.args.array c.in_ok-check.ensures c.in_ok-check_id.ensures c.in_ok-len.ensures c.counts_after-counts.ensures (omega arith)

pub returns-in_err-check_room : goal.returns-in_err-check_room
returns-in_err-check_room c =
    refused _ _ _ _ _ c.from_residual-in_err-check_room.ensures
    (no_room _ _ c.args.array c.in_ok-check.ensures c.in_ok-check_id.ensures c.in_ok-len.ensures c.counts_after-counts.ensures (omega arith) c.in_err-check_room.ensures)

pub returns : goal.returns
returns c =
    passes _ _ _ c.in_ok-check.ensures c.in_ok-check_id.ensures c.in_ok-len.ensures c.counts_after-counts.ensures (omega arith) c.in_ok-check_room.ensures
