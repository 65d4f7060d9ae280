-- A refusal that `?` hands on.
-- Assumes nothing.
use mathlib.Core.Path.{◌≡◌, ◌∙◌, ap}
use Rattle.std.specs.Prelude.{Err, IsErr, Result as Reply}
use Rattle.std.specs.Result.{IsErrAnd}
use Rattle.std.proofs.lemmas.Result.{err_from_is_err_and}

pub err_is : {A E : Type 0} (r : Reply A E) (e : E) → IsErr r × IsErrAnd r (λ y. y ≡ e) → r ≡ Err e
err_is r e p = let h = err_from_is_err_and {Q = λ y. y ≡ e} r p.1 in h.1 ∙ ap Err h.2
