-- The laws of packed code units: lengths, bounds, and packing unit by unit.
-- Assumes nothing.
use mathlib.Core.Path.{◌≡◌, refl, ap}
use mathlib.Core.List.{List, [], ◌∷◌, ◌++◌}
use Prim.Native.Nat.{ℕ, suc, ◌+◌, ◌*◌, ◌/◌, ◌%◌, ◌^◌, ◌<◌}
use native.Mathlib.Omega.{arith}
use lib.ListN.{length, get_or}
use Rattle.text.specs.Unicode.{Below}
use Rattle.writer.specs.Words.{value, packed}

-- ---- lengths and bounds

pub length_packed : (us : List ℕ) → length (packed us) ≡ (length us + 3) / 4
unfolding packed
length_packed [] = refl
length_packed (a ∷ []) = refl
length_packed (a ∷ b ∷ []) = refl
length_packed (a ∷ b ∷ c ∷ []) = refl
length_packed (a ∷ b ∷ c ∷ d ∷ us) = omega (arith, length_packed us)

-- a packed word is a word
pub packed_below : (us : List ℕ) → Below 65536 us → Below (2 ^ 64) (packed us)
unfolding packed value
packed_below [] h = tt
packed_below (a ∷ []) h = (omega arith, tt)
packed_below (a ∷ b ∷ []) h = (omega arith, tt)
packed_below (a ∷ b ∷ c ∷ []) h = (omega arith, tt)
packed_below (a ∷ b ∷ c ∷ d ∷ us) h = (omega arith, packed_below us h.1.1.1.1)

-- ---- the words, by the units

pub packed_0 : packed [] ≡ []
unfolding packed
packed_0 = refl

pub packed_1 : (a : ℕ) → packed (a ∷ []) ≡ a ∷ []
unfolding packed value
packed_1 a = ap (λ (w : ℕ). w ∷ []) (omega arith)

pub packed_2 : (a b : ℕ) → packed (a ∷ b ∷ []) ≡ (a + 65536 * b) ∷ []
unfolding packed value
packed_2 a b = ap (λ (w : ℕ). w ∷ []) (omega arith)

pub packed_3 : (a b c : ℕ) → packed (a ∷ b ∷ c ∷ []) ≡ (a + 65536 * b + 4294967296 * c) ∷ []
unfolding packed value
packed_3 a b c = ap (λ (w : ℕ). w ∷ []) (omega arith)

pub packed_4 : (a b c d : ℕ) (us : List ℕ) → packed (a ∷ b ∷ c ∷ d ∷ us) ≡ (a + 65536 * b + 4294967296 * c + 281474976710656 * d) ∷ packed us
unfolding packed value
packed_4 a b c d us = ap (λ (w : ℕ). w ∷ packed us) (omega arith)

-- after the last unit packing leaves zeros
pub padded : (us : List ℕ) → Below 65536 us → get_or (packed us) (length us / 4) 0 / 2 ^ (16 * (length us % 4)) ≡ 0
unfolding packed value
padded [] h = refl
padded (a ∷ []) h = omega arith
padded (a ∷ b ∷ []) h = omega arith
padded (a ∷ b ∷ c ∷ []) h = omega arith
padded (a ∷ b ∷ c ∷ d ∷ us) h =
    let i : suc (suc (suc (suc (length us)))) / 4 ≡ suc (length us / 4) = omega arith in
    let j : suc (suc (suc (suc (length us)))) % 4 ≡ length us % 4 = omega arith in
    rw (i, j) (padded us h.1.1.1.1)

-- ---- unit by unit

-- the words that the units fill; up to three units are left over
unfoldable pub whole : List ℕ → List ℕ
whole [] = []
whole (a ∷ []) = []
whole (a ∷ b ∷ []) = []
whole (a ∷ b ∷ c ∷ []) = []
whole (a ∷ b ∷ c ∷ d ∷ us) = value (a ∷ b ∷ c ∷ d ∷ []) ∷ whole us

-- the word that holds the last four units, the last one highest, where w held those before
unfoldable pub window : ℕ → List ℕ → ℕ
window w [] = w
window w (u ∷ us) = window (w / 65536 + u * 281474976710656) us

pub length_whole : (us : List ℕ) → length (whole us) ≡ length us / 4
unfolding whole
length_whole [] = refl
length_whole (a ∷ []) = refl
length_whole (a ∷ b ∷ []) = refl
length_whole (a ∷ b ∷ c ∷ []) = refl
length_whole (a ∷ b ∷ c ∷ d ∷ us) = omega (arith, length_whole us)

pub window_snoc : (w : ℕ) (us : List ℕ) (u : ℕ) → window w (us ++ u ∷ []) ≡ window w us / 65536 + u * 281474976710656
unfolding window
window_snoc w [] u = refl
window_snoc w (v ∷ us) u = window_snoc (w / 65536 + v * 281474976710656) us u

window_below : (w : ℕ) (us : List ℕ) → w < 2 ^ 64 → Below 65536 us → window w us < 2 ^ 64
unfolding window
window_below w [] l h = l
window_below w (v ∷ us) l h = window_below (w / 65536 + v * 281474976710656) us (omega arith) h.1

-- a unit that fills no word
pub whole_keeps : (us : List ℕ) (u : ℕ) → ((length us + 1) % 4 ≡ 0 → ⊥) → whole (us ++ u ∷ []) ≡ whole us
unfolding whole
whole_keeps [] u h = refl
whole_keeps (a ∷ []) u h = refl
whole_keeps (a ∷ b ∷ []) u h = refl
whole_keeps (a ∷ b ∷ c ∷ []) u h = absurd (h refl)
whole_keeps (a ∷ b ∷ c ∷ d ∷ us) u h = ap (λ (r : List ℕ). value (a ∷ b ∷ c ∷ d ∷ []) ∷ r) (whole_keeps us u (λ e. h (omega arith)))

-- a unit that fills a word: the word is the window
pub whole_fills : (w : ℕ) (us : List ℕ) (u : ℕ) → w < 2 ^ 64 → Below 65536 us → u < 65536 → (length us + 1) % 4 ≡ 0
    → whole (us ++ u ∷ []) ≡ whole us ++ window w (us ++ u ∷ []) ∷ []
unfolding whole window value
whole_fills w [] u l h k e = absurd (omega arith)
whole_fills w (a ∷ []) u l h k e = absurd (omega arith)
whole_fills w (a ∷ b ∷ []) u l h k e = absurd (omega arith)
whole_fills w (a ∷ b ∷ c ∷ []) u l h k e = ap (λ (x : ℕ). x ∷ []) (omega arith)
whole_fills w (a ∷ b ∷ c ∷ d ∷ us) u l h k e =
    ap (λ (r : List ℕ). value (a ∷ b ∷ c ∷ d ∷ []) ∷ r)
    (whole_fills (window w (a ∷ b ∷ c ∷ d ∷ [])) us u
    (window_below w (a ∷ b ∷ c ∷ d ∷ []) l (h.0, (h.1.0, (h.1.1.0, (h.1.1.1.0, tt))))) h.1.1.1.1 k (omega arith))

-- no unit is left over: the words that are filled are all
pub packed_whole : (us : List ℕ) → length us % 4 ≡ 0 → packed us ≡ whole us
unfolding packed whole
packed_whole [] e = refl
packed_whole (a ∷ []) e = absurd (omega arith)
packed_whole (a ∷ b ∷ []) e = absurd (omega arith)
packed_whole (a ∷ b ∷ c ∷ []) e = absurd (omega arith)
packed_whole (a ∷ b ∷ c ∷ d ∷ us) e = ap (λ (r : List ℕ). value (a ∷ b ∷ c ∷ d ∷ []) ∷ r) (packed_whole us (omega arith))

-- a zero in a word that is not full changes nothing
pub packed_zero : (us : List ℕ) → (length us % 4 ≡ 0 → ⊥) → packed (us ++ 0 ∷ []) ≡ packed us
unfolding packed value
packed_zero [] e = absurd (e refl)
packed_zero (a ∷ []) e = refl
packed_zero (a ∷ b ∷ []) e = refl
packed_zero (a ∷ b ∷ c ∷ []) e = refl
packed_zero (a ∷ b ∷ c ∷ d ∷ us) e = ap (λ (r : List ℕ). value (a ∷ b ∷ c ∷ d ∷ []) ∷ r) (packed_zero us (λ z. e (omega arith)))
