-- What a reply says, and what is to be shown of a call that writes a list.
-- Assumes nothing.
use mathlib.Core.Path.{◌≡◌, refl, ◌∙◌, sym, ap}
use mathlib.Core.List.{List}
use Prim.Native.Nat.{ℕ}
use lib.ListN.{length}
use Rattle.std.specs.Prelude.{IsErr, Result as Reply}
use Rattle.std.specs.Result.{IsErrAnd}
use Rattle.std.proofs.lemmas.Result.{err_from_is_err_and}
use Rattle.text.specs.Errors.{failure_of}
use Rattle.text.specs.Replies.{outcome, Writes}
use Rattle.text.specs.Result.{Result, ok, error, map_result, overwritten}
use Rattle.text.specs.declared.error.Failure.{Failure}
use Rattle.text.specs.declared.error.MatError.{MatError}
use Rattle.text.proofs.ResultLaws.{same_value}
use Rattle.text.proofs.TestLaws.{clash}

-- a call that comes to k
pub writes : {A : Type 0} (m : ℕ → Result (List A)) (out : List A) (k : Result (List A)) {r : Reply ℕ MatError} {out' : List A} → m (length out) ≡ k
    → outcome r ≡ map_result length k → out' ≡ overwritten (λ t. t) k out → Writes m out r out'
writes {A} m out k e p q = record {
  reply = p ∙ ap (map_result length) (sym e);
  buffer = q ∙ ap (λ (n : Result (List A)). overwritten (λ t. t) n out) (sym e);
}

-- a refusal that `?` hands on
pub handed_on : {A : Type 0} (r : Reply A MatError) (e : MatError) → IsErr r × IsErrAnd r (λ y. y ≡ e) → outcome r ≡ error (failure_of e)
handed_on r e p =
    let h = err_from_is_err_and {Q = λ y. y ≡ e} r p.1 in
    ap outcome h.1 ∙ ap (λ (y : MatError). error (failure_of y)) h.2

-- the same, of a call that writes and comes to what is refused
pub writes_refused : {A : Type 0} (m : ℕ → Result (List A)) (out : List A) (r : Reply ℕ MatError) (e : MatError)
    → IsErr r × IsErrAnd r (λ y. y ≡ e) → m (length out) ≡ error (failure_of e) → Writes m out r out
writes_refused m out r e p q = writes m out (error (failure_of e)) q (handed_on r e p) refl

-- what a reply with a size of what k comes to says, in the arm of its value and in that of a refusal
module _ {A B : Type 0} (size : A → B) (k : Result A) where
  pub told_value : {n : B} → ok n ≡ map_result size k → (a : A) × ((k ≡ ok a) × (size a ≡ n))
  told_value {n} e = by k refl (sym e)
    where
      by : (j : Result A) → k ≡ j → map_result size j ≡ ok n → (a : A) × ((k ≡ ok a) × (size a ≡ n))
      by (ok a) q z = (a, (q, same_value z))
      by (error f) q z = clash cc

  pub told_error : {f : Failure} → error f ≡ map_result size k → k ≡ error f
  told_error {f} e = by k refl (sym e)
    where
      by : (j : Result A) → k ≡ j → map_result size j ≡ error f → k ≡ error f
      by (ok a) q z = clash cc
      by (error h) q z = let s : h ≡ f = cc in q ∙ ap error s
