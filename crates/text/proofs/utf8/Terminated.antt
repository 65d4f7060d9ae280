-- The loop of `terminated_length`: a text that ends before its first zero byte is looked at where it lies, with the bytes after it.
-- Assumes nothing.
use mathlib.Core.Path.{◌≡◌, refl, ◌∙◌, sym, ap}
use mathlib.Core.Bool.{Bool, true, false, cond, and-false}
use mathlib.Core.List.{List, [], ◌∷◌}
use Rattle.std.specs.Prelude.{Option, Some, None, Ok, Err}
use Rattle.std.specs.Option.{option_map}
use Prim.Native.Nat.{ℕ, zero, suc, ◌+◌, ◌≤◌, ◌<◌}
use native.Mathlib.Omega.{arith}
use borrow.Author.Tests.{eq-eqb, ne_eqb, eqb-true, eqb-false, lt-ltb, ltb-true, ltb-false, lt-leb, leb-false}
use lib.Dec.{leb, ltb, eqb}
use lib.ListN.{length, get_or}
use Rattle.text.specs.Replies.{terminated_length}
use Rattle.text.specs.Stages.Utf8.{whole_length}
use Rattle.text.specs.Utf8.{sequence_length, second_range, has_in, matched, whole_at, scalars8, before_zero}
use Rattle.text.proofs.utf8.Count.{Counting, count_ascii, count_whole, count_stop, count_last}
use Rattle.text.proofs.LeadLaws.{starts_byte, second_least}
use Rattle.text.proofs.utf8.Lossy.{valid_scalars, invalid_scalars}
use Rattle.text.proofs.TestLaws.{either}
use Rattle.text.proofs.Utf8Laws.{has_is, map_is, not_some}

-- ---- the text and the bytes after it

pub before_none : before_zero [] ≡ []
unfolding before_zero
before_none = refl

module _ (x : ℕ) (s : List ℕ) where
  pub before_zero_lem : x ≡ 0 → before_zero (x ∷ s) ≡ []
  unfolding before_zero
  before_zero_lem e = simp (eq-eqb x 0 e)

  pub before_more : (x ≡ 0 → ⊥) → before_zero (x ∷ s) ≡ x ∷ before_zero s
  unfolding before_zero
  before_more n = simp (ne_eqb x 0 n)

before_le : (s : List ℕ) → length (before_zero s) ≤ length s
unfolding before_zero
before_le [] = omega arith
before_le (x ∷ s) = either (eqb x 0) (λ t. simp t (omega arith)) (λ t. simp t (omega (arith, before_le s)))

-- the same bytes, none of them 0
before_byte : (s : List ℕ) (i : ℕ) → i < length (before_zero s) → (get_or (before_zero s) i 0 ≡ get_or s i 0) × (get_or s i 0 ≡ 0 → ⊥)
unfolding before_zero
before_byte [] i h = absurd (omega arith)
before_byte (x ∷ s) i h =
    either (eqb x 0)
    (λ t. absurd (omega (arith, simp t at h)))
    (λ t. simp t (at i (simp t at h) (eqb-false x 0 t) (before_byte s)))
  where
    at : (i : ℕ) → i < suc (length (before_zero s)) → (x ≡ 0 → ⊥) → ((j : ℕ) → j < length (before_zero s) → (get_or (before_zero s) j 0 ≡ get_or s j 0) × (get_or s j 0 ≡ 0 → ⊥))
        → (get_or (x ∷ before_zero s) i 0 ≡ get_or (x ∷ s) i 0) × (get_or (x ∷ s) i 0 ≡ 0 → ⊥)
    at zero h n each = (refl, n)
    at (suc i) h n each = each i (omega arith)

-- and then 0, or nothing
before_end : (s : List ℕ) → get_or s (length (before_zero s)) 0 ≡ 0
unfolding before_zero
before_end [] = refl
before_end (x ∷ s) = either (eqb x 0) (λ t. simp t (eqb-true x 0 t)) (λ t. simp t (before_end s))

-- ---- what the bytes after the text cannot add

-- a later byte of a sequence is not 0
module _ (s : List ℕ) (j low high : ℕ) (least : 1 ≤ low) (h : j ≤ length (before_zero s)) where
  has_same : has_in s j low high ≡ has_in (before_zero s) j low high
  unfolding has_in
  has_same =
      either (ltb j (length (before_zero s)))
      (λ t. let l : j < length (before_zero s) = ltb-true j (length (before_zero s)) t in
      simp (t, lt-ltb j (length s) (omega (arith, before_le s)), (before_byte s j l).0))
      (λ t. let z : j ≡ length (before_zero s) = omega (arith, ltb-false j (length (before_zero s)) t) in
      let e : get_or s j 0 ≡ 0 = ap (λ (k : ℕ). get_or s k 0) z ∙ before_end s in
      simp (t, e, lt-leb low 0 least, and-false))

-- the bytes that `matched` takes, by its tests: a test counts only where those before it hold
abbrev taken : ℕ → Bool → Bool → Bool → ℕ
taken n b c d = cond (leb n 1) n (cond b (cond (eqb n 2) 2 (cond c (cond (eqb n 3) 3 (cond d 4 3)) 2)) 1)

taken_same : (n : ℕ) (b c d b' c' d' : Bool) → (leb n 1 ≡ false → b ≡ b') → (b' ≡ true → c ≡ c') → (b' ≡ true → c' ≡ true → d ≡ d')
    → taken n b c d ≡ taken n b' c' d'
taken_same n b c d b' c' d' first second third =
    either (leb n 1) (λ t. simp t)
    (λ t. by b' c' (first t) second third)
  where
    by : (b' c' : Bool) → b ≡ b' → (b' ≡ true → c ≡ c') → (b' ≡ true → c' ≡ true → d ≡ d') → taken n b c d ≡ taken n b' c' d'
    by false c' e f g = rw e
    by true false e f g = rw (e, f refl)
    by true true e f g = rw (e, f refl, g refl refl)

module _ (s : List ℕ) (i : ℕ) (h : i < length (before_zero s)) where
  matched_same : matched s i ≡ matched (before_zero s) i
  unfolding matched
  matched_same =
      let z : List ℕ = before_zero s in
      let a : ℕ = get_or s i 0 in
      let low : ℕ = (second_range a).low in
      let high : ℕ = (second_range a).high in
      rw (before_byte s i h).0
      (taken_same (sequence_length a)
      (has_in s (i + 1) low high) (has_in s (i + 2) 0x80 0xBF) (has_in s (i + 3) 0x80 0xBF)
      (has_in z (i + 1) low high) (has_in z (i + 2) 0x80 0xBF) (has_in z (i + 3) 0x80 0xBF)
      (λ t. has_same s (i + 1) low high (omega (arith, second_least a (starts_byte a (omega (arith, leb-false (sequence_length a) 1 t))))) (omega arith))
      (λ y. has_same s (i + 2) 0x80 0xBF (omega arith) (omega (arith, (has_is z (i + 1) low high y).0)))
      (λ y x. has_same s (i + 3) 0x80 0xBF (omega arith) (omega (arith, (has_is z (i + 2) 0x80 0xBF x).0))))

  whole_same : whole_length s i ≡ whole_length (before_zero s) i
  unfolding whole_length whole_at
  whole_same = rw (matched_same, (before_byte s i h).0)

-- ---- the loop

-- all before i is well-formed, and none of it 0
pub record Ending (s : List ℕ) (i : ℕ) : Type 0 where
  pub units : ℕ
  pub counting : Counting (before_zero s) units i

module _ {s : List ℕ} {i : ℕ} (e : Ending s i) where
  inside : (get_or s i 0 ≡ 0 → ⊥) → i < length (before_zero s)
  inside n =
      either (ltb i (length (before_zero s))) (λ t. ltb-true i (length (before_zero s)) t)
      (λ t. let z : i ≡ length (before_zero s) = omega (arith, ltb-false i (length (before_zero s)) t, e.counting.bound) in
      absurd (n (ap (λ (k : ℕ). get_or s k 0) z ∙ before_end s)))

  pub ending_ascii : (get_or s i 0 ≡ 0 → ⊥) → get_or s i 0 < 128 → Ending s (i + 1)
  ending_ascii n l =
      record { units = e.units + 1; counting = count_ascii (before_zero s) e.counting (inside n) (rw (before_byte s i (inside n)).0 l) }

  module _ (n : get_or s i 0 ≡ 0 → ⊥) where
    pub ending_whole : {r : ℕ} → Some r ≡ whole_length s i → Ending s (i + r)
    ending_whole is =
        record { units = _; counting = count_whole (before_zero s) e.counting (inside n) (is ∙ whole_same s i (inside n)) refl }

    pub ending_broken : None ≡ whole_length s i → None ≡ terminated_length s
    ending_broken is =
        let c = count_stop (before_zero s) e.counting (inside n) (is ∙ whole_same s i (inside n)) in
        sym (ap (option_map (λ _. length (before_zero s))) (invalid_scalars (before_zero s) {A = ℕ} {x = Err (record { valid_up_to = i })} c.place refl))

  ended : length (before_zero s) ≤ i → Some i ≡ terminated_length s
  ended l =
      let c = count_last (before_zero s) e.counting l in
      let z : i ≡ length (before_zero s) = omega (arith, e.counting.bound) in
      ap Some z ∙ sym (ap (option_map (λ _. length (before_zero s))) (valid_scalars (before_zero s) {A = ℕ} {x = Ok i} c.place refl))

  pub ending_zero : get_or s i 0 ≡ 0 → Some i ≡ terminated_length s
  ending_zero z =
      ended
      (either (ltb i (length (before_zero s))) (λ t. absurd ((before_byte s i (ltb-true i (length (before_zero s)) t)).1 z))
      (λ t. ltb-false i (length (before_zero s)) t))

  pub ending_last : length s ≤ i → Some i ≡ terminated_length s
  ending_last l = ended (omega (arith, before_le s))

-- ---- what a reply says

module _ (s : List ℕ) {x : Option ℕ} (e : x ≡ terminated_length s) where
  pub terminated_is : {n : ℕ} → x ≡ Some n → (vs : List ℕ) × ((scalars8 (before_zero s) ≡ Some vs) × (n ≡ length (before_zero s)))
  terminated_is g = map_is (λ _. length (before_zero s)) (scalars8 (before_zero s)) (sym e ∙ g)

  pub terminated_not : x ≡ None → scalars8 (before_zero s) ≡ None
  terminated_not g = none_of (scalars8 (before_zero s)) (sym e ∙ g)
    where
      none_of : (m : Option (List ℕ)) → option_map (λ _. length (before_zero s)) m ≡ None → m ≡ None
      none_of None q = refl
      none_of (Some vs) q = not_some (sym q)
