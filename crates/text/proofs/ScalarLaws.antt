-- Scalar values, and their bytes and code units by size.
-- Assumes nothing.
use mathlib.Core.Path.{◌≡◌, refl, ap}
use mathlib.Core.Bool.{true, false, not}
use mathlib.Core.List.{List, [], ◌∷◌, ◌++◌, flat_map}
use Prim.Native.Nat.{ℕ, ◌+◌, ◌-◌, ◌*◌, ◌/◌, ◌%◌, ◌≤◌, ◌<◌}
use native.Mathlib.Omega.{arith}
use borrow.Author.Tests.{lt-ltb, le-ltb, ltb-true, ltb-false, not-true}
use lib.Dec.{ltb}
use lib.ListN.{length, length-append}
use Rattle.text.specs.Unicode.{Below, is_surrogate, is_scalar, utf8, utf16, utf8s, utf16s, encoded}
use Rattle.text.proofs.TestLaws.{and_is, either, within_under, within_over, within_not}

pub record IsScalar (v : ℕ) : Type 0 where
  pub top : v < 0x110000
  pub gap : is_surrogate v ≡ false

abbrev pub Scalars : List ℕ → Type 0
Scalars [] = Unit
Scalars (v ∷ vs) = IsScalar v × Scalars vs

pub scalar_is : (v : ℕ) → is_scalar v ≡ true → IsScalar v
scalar_is v e =
    let p = and_is (ltb v 0x110000) (not (is_surrogate v)) e in
    record { top = ltb-true v 0x110000 p.0; gap = not-true (is_surrogate v) p.1 }

pub is_scalar_lem : {v : ℕ} → IsScalar v → is_scalar v ≡ true
is_scalar_lem {v} s = simp (lt-ltb v 0x110000 s.top, s.gap)

pub encoded_is : (v : ℕ) → is_scalar v ≡ true → encoded utf8 v ≡ utf8 v
encoded_is v e = simp e

-- ---- what is no surrogate

pub gap_below : (v : ℕ) → v < 0xD800 → is_surrogate v ≡ false
gap_below v h = within_under 0xD800 0xDFFF v h

pub gap_above : (v : ℕ) → 0xE000 ≤ v → is_surrogate v ≡ false
gap_above v h = within_over 0xD800 0xDFFF v (omega arith) h

pub gap_cases : {P : Type 0} (v : ℕ) → is_surrogate v ≡ false → (v < 0xD800 → P) → (0xE000 ≤ v → P) → P
gap_cases v e f g = within_not 0xD800 0xDFFF v e f g

-- ---- bytes and code units by the size of the value

module _ (v : ℕ) where
  pub utf8_1 : v < 0x80 → utf8 v ≡ v ∷ []
  unfolding utf8
  utf8_1 h = simp (lt-ltb v 0x80 h)

  pub utf8_2 : 0x80 ≤ v → v < 0x800 → utf8 v ≡ (0xC0 + v / 64) ∷ (0x80 + v % 64) ∷ []
  unfolding utf8
  utf8_2 l h = simp (le-ltb v 0x80 l, lt-ltb v 0x800 h)

  pub utf8_3 : 0x800 ≤ v → v < 0x10000 → utf8 v ≡ (0xE0 + v / 4096) ∷ (0x80 + v / 64 % 64) ∷ (0x80 + v % 64) ∷ []
  unfolding utf8
  utf8_3 l h = simp (le-ltb v 0x80 (omega arith), le-ltb v 0x800 l, lt-ltb v 0x10000 h)

  pub utf8_4 : 0x10000 ≤ v → utf8 v ≡ (0xF0 + v / 262144) ∷ (0x80 + v / 4096 % 64) ∷ (0x80 + v / 64 % 64) ∷ (0x80 + v % 64) ∷ []
  unfolding utf8
  utf8_4 l = simp (le-ltb v 0x80 (omega arith), le-ltb v 0x800 (omega arith), le-ltb v 0x10000 l)

  pub utf16_1 : v < 0x10000 → utf16 v ≡ v ∷ []
  unfolding utf16
  utf16_1 h = simp (lt-ltb v 0x10000 h)

  pub utf16_2 : 0x10000 ≤ v → utf16 v ≡ (0xD800 + (v - 0x10000) / 1024) ∷ (0xDC00 + (v - 0x10000) % 1024) ∷ []
  unfolding utf16
  utf16_2 h = simp (le-ltb v 0x10000 h)

  -- by the number of bytes
  pub by_size {ℓ} : {P : Type ℓ} → (v < 0x80 → P) → (0x80 ≤ v → v < 0x800 → P) → (0x800 ≤ v → v < 0x10000 → P) → (0x10000 ≤ v → P) → P
  by_size f g h k =
      either (ltb v 0x80) (λ e. f (ltb-true v 0x80 e))
      (λ e. either (ltb v 0x800) (λ d. g (ltb-false v 0x80 e) (ltb-true v 0x800 d))
      (λ d. either (ltb v 0x10000) (λ c. h (ltb-false v 0x800 d) (ltb-true v 0x10000 c)) (λ c. k (ltb-false v 0x10000 c))))

pub utf8s_nil : utf8s [] ≡ []
unfolding flat_map
utf8s_nil = refl

pub utf8s_cons : (v : ℕ) (vs : List ℕ) → utf8s (v ∷ vs) ≡ utf8 v ++ utf8s vs
unfolding flat_map
utf8s_cons v vs = refl

pub utf16s_nil : utf16s [] ≡ []
unfolding flat_map
utf16s_nil = refl

pub utf16s_cons : (v : ℕ) (vs : List ℕ) → utf16s (v ∷ vs) ≡ utf16 v ++ utf16s vs
unfolding flat_map
utf16s_cons v vs = refl

-- ---- bytes are bytes, and code units code units

utf8_below : (v : ℕ) → IsScalar v → Below 256 (utf8 v)
utf8_below v sc =
    let t = sc.top in
    by_size v (λ h. rw (utf8_1 v h) (omega arith, tt)) (λ l h. rw (utf8_2 v l h) (omega arith, (omega arith, tt)))
    (λ l h. rw (utf8_3 v l h) (omega arith, (omega arith, (omega arith, tt))))
    (λ l. rw (utf8_4 v l) (omega arith, (omega arith, (omega arith, (omega arith, tt)))))

utf16_below : (v : ℕ) → IsScalar v → Below 65536 (utf16 v)
utf16_below v sc =
    let t = sc.top in
    either (ltb v 0x10000) (λ e. let h = ltb-true v 0x10000 e in rw (utf16_1 v h) (h, tt))
    (λ e. let h = ltb-false v 0x10000 e in rw (utf16_2 v h) (omega arith, (omega arith, tt)))

pub below_append : (b : ℕ) (us vs : List ℕ) → Below b us → Below b vs → Below b (us ++ vs)
below_append b [] vs l m = m
below_append b (u ∷ us) vs l m = (l.0, below_append b us vs l.1 m)

flat_below : (b : ℕ) (f : ℕ → List ℕ) → ((v : ℕ) → IsScalar v → Below b (f v)) → (vs : List ℕ) → Scalars vs → Below b (flat_map f vs)
unfolding flat_map
flat_below b f k [] h = tt
flat_below b f k (v ∷ vs) h = below_append b (f v) (flat_map f vs) (k v h.0) (flat_below b f k vs h.1)

pub utf8s_below : (vs : List ℕ) → Scalars vs → Below 256 (utf8s vs)
utf8s_below = flat_below 256 utf8 utf8_below

pub utf16s_below : (vs : List ℕ) → Scalars vs → Below 65536 (utf16s vs)
utf16s_below = flat_below 65536 utf16 utf16_below

-- ---- a number that a list does not hold

abbrev pub Without : ℕ → List ℕ → Type 0
Without n [] = Unit
Without n (x ∷ xs) = (x ≡ n → ⊥) × Without n xs

-- only U+0000 has a byte 0
pub utf8_non_zero : (v : ℕ) → (v ≡ 0 → ⊥) → Without 0 (utf8 v)
utf8_non_zero v n =
    by_size v (λ h. rw (utf8_1 v h) (n, tt)) (λ l h. rw (utf8_2 v l h) ((λ e. omega arith), ((λ e. omega arith), tt)))
    (λ l h. rw (utf8_3 v l h) ((λ e. omega arith), ((λ e. omega arith), ((λ e. omega arith), tt))))
    (λ l. rw (utf8_4 v l) ((λ e. omega arith), ((λ e. omega arith), ((λ e. omega arith), ((λ e. omega arith), tt)))))

-- ---- lengths

-- the lengths of one scalar value
pub record Lengths (v : ℕ) : Type 0 where
  pub least : 1 ≤ length (utf16 v)
  pub units : length (utf16 v) ≤ length (utf8 v)
  pub bytes : length (utf8 v) ≤ 3 * length (utf16 v)
  pub most : length (utf16 v) ≤ 2
  pub exact : length (utf16 v) ≡ 1 + length (utf8 v) / 4

lengths_by : (v n k : ℕ) → length (utf8 v) ≡ n → length (utf16 v) ≡ k → 1 ≤ k → k ≤ n → n ≤ 3 * k → k ≤ 2 → k ≡ 1 + n / 4 → Lengths v
lengths_by v n k a b p q r s t = record { least = omega arith; units = omega arith; bytes = omega arith; most = omega arith; exact = rw (a, b) t }

pub lengths : (v : ℕ) → Lengths v
lengths v =
    by_size v (λ h. lengths_by v 1 1 (ap length (utf8_1 v h)) (ap length (utf16_1 v (omega arith))) (omega arith) (omega arith) (omega arith) (omega arith) refl)
    (λ l h. lengths_by v 2 1 (ap length (utf8_2 v l h)) (ap length (utf16_1 v (omega arith))) (omega arith) (omega arith) (omega arith) (omega arith) refl)
    (λ l h. lengths_by v 3 1 (ap length (utf8_3 v l h)) (ap length (utf16_1 v h)) (omega arith) (omega arith) (omega arith) (omega arith) refl)
    (λ l. lengths_by v 4 2 (ap length (utf8_4 v l)) (ap length (utf16_2 v l)) (omega arith) (omega arith) (omega arith) (omega arith) refl)

-- the code units of a text are at most its bytes
pub units_le : (vs : List ℕ) → length (utf16s vs) ≤ length (utf8s vs)
unfolding flat_map
units_le [] = omega arith
units_le (v ∷ vs) = simp length-append (omega (arith, lengths v, units_le vs))

-- and its bytes at most three times the code units
pub bytes_le : (vs : List ℕ) → length (utf8s vs) ≤ 3 * length (utf16s vs)
unfolding flat_map
bytes_le [] = omega arith
bytes_le (v ∷ vs) = simp length-append (omega (arith, lengths v, bytes_le vs))
