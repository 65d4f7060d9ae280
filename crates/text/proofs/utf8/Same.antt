-- The loop of `is_lossy`, which compares the repaired text of bytes with a text.
-- Assumes nothing.
use mathlib.Core.Path.{◌≡◌, refl, ◌∙◌, sym, ap}
use mathlib.Core.Bool.{Bool, true, false, not}
use mathlib.Core.List.{List, [], ◌∷◌, ◌++◌, flat_map}
use Prim.Native.Nat.{ℕ, ◌+◌, ◌≤◌}
use native.Mathlib.Omega.{arith}
use borrow.Author.Tests.{eq-eqb, eqb-true, eqb-false, not-true, not-false}
use lib.Dec.{eqb}
use lib.ListN.{length, take, drop, length-drop, take-append-drop, drop_of_length-le}
use lib.Seq.{length-take-le}
use Rattle.text.specs.declared.utf8.Step.{Step}
use Rattle.text.specs.declared.utf8.Step.TheVariants.{Scalar, IllFormed, End}
use Rattle.text.specs.Buffer.{same}
use Rattle.text.specs.Unicode.{is_scalar, utf8, utf8s, encoded}
use Rattle.text.specs.Stages.Utf8.{step_has}
use Rattle.text.specs.Utf8.{step_at, parts_from, repaired, lossy}
use Rattle.text.proofs.utf8.Lossy.{Writes, splits, writes_scalar, writes_replacement, nothing_left, replacement_size}
use Rattle.text.proofs.PartLaws.{step_reads}
use Rattle.text.proofs.SameLaws.{same_not}
use Rattle.text.proofs.ScalarLaws.{scalar_is, encoded_is}
use Rattle.text.proofs.TestLaws.{not_both, either}
use Rattle.text.proofs.Utf8Laws.{step_utf8, step_took, took_size}

-- what both begin with does not matter
same_after : (w a b : List ℕ) → same (w ++ a) (w ++ b) ≡ same a b
unfolding same
same_after [] a b = refl
same_after (x ∷ w) a b = simp (eq-eqb x x refl) (same_after w a b)

-- the empty list is all that is left of t at its end, and there alone
same_end : (t : List ℕ) (o : ℕ) → o ≤ length t → eqb o (length t) ≡ same [] (drop o t)
unfolding same
same_end t o h =
    either (eqb o (length t))
    (λ e.
    let l : length t ≤ o = omega (arith, eqb-true o (length t) e) in
    rw (e, drop_of_length-le t l))
    (λ e. e ∙ sym (same_not [] (drop o t) (λ k. eqb-false o (length t) e (omega (arith, simp length-drop at (ap length k))))))

-- ---- whether a text has a scalar value at o

module _ (t : List ℕ) (o w : ℕ) {x : Step} (e : x ≡ step_at t o) where
  pub has_by_value : {v next : ℕ} → x ≡ Scalar v next → eqb v w ≡ step_has (step_at t o) w
  unfolding step_has
  has_by_value g = rw (sym e ∙ g)

  pub has_not : ((v next : ℕ) → x ≡ Scalar v next → ⊥) → false ≡ step_has (step_at t o) w
  unfolding step_has
  has_not n = by x n ∙ ap (λ y. step_has y w) e
    where
      by : (y : Step) → ((v next : ℕ) → y ≡ Scalar v next → ⊥) → false ≡ step_has y w
      by (Scalar v next) m = absurd (m v next refl)
      by (IllFormed next) m = refl
      by End m = refl

-- the bytes of w stand at o
record HasScalarAt (t : List ℕ) (o w : ℕ) : Type 0 where
  pub inside : o + length (utf8 w) ≤ length t
  pub rest : drop o t ≡ utf8 w ++ drop (o + length (utf8 w)) t

has_scalar_at : (t : List ℕ) (o w : ℕ) → step_has (step_at t o) w ≡ true → HasScalarAt t o w
unfolding step_has
has_scalar_at t o w h = by (step_at t o) refl h
  where
    by : (x : Step) → step_at t o ≡ x → step_has x w ≡ true → HasScalarAt t o w
    by (Scalar v n) g k =
        let r = step_reads t o (rw (eqb-true v w k) at g) in
        let z = took_size r in
        record { inside = omega (arith, r.advance); rest = rw (← z) (step_took t o w n r).rest }
    by (IllFormed n) g k = not_both k refl
    by End g k = not_both k refl

-- and where they stand, the step has w
stands_read : (t : List ℕ) (o w : ℕ) (a : List ℕ) → is_scalar w ≡ true → o ≤ length t → utf8 w ++ a ≡ drop o t → step_has (step_at t o) w ≡ true
unfolding step_has
stands_read t o w a sc h e =
    let k : take o t ++ (utf8 w ++ a) ≡ t = ap (λ (d : List ℕ). take o t ++ d) e ∙ take-append-drop o t in
    let r = rw (k, length-take-le o t h) at (step_utf8 (take o t) a w (scalar_is w sc)) in
    rw r (eq-eqb w w refl)

-- ---- the loop

-- the texts are the same where what is left of them is
pub record Matching (s t : List ℕ) (i o : ℕ) : Type 0 where
  pub bound : o ≤ length t
  pub rest : same (lossy s) t ≡ same (utf8s (repaired (parts_from s i))) (drop o t)

module _ (s t : List ℕ) where
  module _ {i o : ℕ} (m : Matching s t i o) where
    split : {next w k : ℕ} → Writes s i next w k → same (lossy s) t ≡ same (utf8 w ++ utf8s (repaired (parts_from s next))) (drop o t)
    split x = rw (splits x).is at m.rest

    turn : {next w k n : ℕ} → Writes s i next w k → n ≡ length (utf8 w) → step_has (step_at t o) w ≡ true → Matching s t next (o + n)
    turn {next} {w} x l h =
        let a = has_scalar_at t o w h in
        record { bound = omega (arith, a.inside); rest = rw l (split x ∙ rw a.rest (same_after (utf8 w) _ _)) }

    stop : {next w k : ℕ} → Writes s i next w k → step_has (step_at t o) w ≡ false → false ≡ same (lossy s) t
    stop {next} {w} x h =
        sym (split x ∙ same_not _ _ (λ e. not_both (stands_read t o w _ x.scalar m.bound e) h))

    module _ {x : Step} (e : x ≡ step_at s i) {b : Bool} where
      pub match_scalar : {v next n : ℕ} → x ≡ Scalar v next → b ≡ step_has (step_at t o) v → not b ≡ false → (n ≡ length (encoded utf8 v)) × (n ≤ 4) → Matching s t next (o + n)
      match_scalar {v} g h y l =
          let w = writes_scalar s i e g in
          turn w (l.0 ∙ ap length (encoded_is v w.scalar)) (sym h ∙ not-false b y)

      pub match_replacement : {next : ℕ} → x ≡ IllFormed next → b ≡ step_has (step_at t o) 0xFFFD → not b ≡ false → Matching s t next (o + 3)
      match_replacement g h y = turn (writes_replacement s i e g) (sym replacement_size) (sym h ∙ not-false b y)

      pub stop_scalar : {v next : ℕ} → x ≡ Scalar v next → b ≡ step_has (step_at t o) v → not b ≡ true → false ≡ same (lossy s) t
      stop_scalar g h y = stop (writes_scalar s i e g) (sym h ∙ not-true b y)

      pub stop_replacement : {next : ℕ} → x ≡ IllFormed next → b ≡ step_has (step_at t o) 0xFFFD → not b ≡ true → false ≡ same (lossy s) t
      stop_replacement g h y = stop (writes_replacement s i e g) (sym h ∙ not-true b y)

    pub match_last : {x : Step} → x ≡ step_at s i → x ≡ End → eqb o (length t) ≡ same (lossy s) t
    unfolding repaired flat_map
    match_last e g = same_end t o m.bound ∙ sym (rw (nothing_left s i e g) at m.rest)
