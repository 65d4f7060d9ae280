-- The bytes of a scalar value by its size, as the code has them: how many, and stored one by one.
-- Assumes nothing.
use mathlib.Core.Path.{◌≡◌, sym, ap, ◌∙◌}
use mathlib.Core.Bool.{Bool, true, false, and-true, and-false}
use mathlib.Core.List.{List, [], ◌∷◌}
use Prim.Native.Nat.{ℕ, suc, ◌+◌, ◌-◌, ◌/◌, ◌%◌, ◌≤◌, ◌<◌}
use native.Mathlib.Omega.{arith}
use borrow.Author.Tests.{lt-ltb, le-ltb, lt-leb, le-leb}
use lib.Dec.{ltb}
use lib.ListN.{length, set}
use lib.Seq.{sets, sets-eq}
use Rattle.text.specs.Buffer.{put, Places}
use Rattle.text.specs.Unicode.{is_scalar, utf8, encoded}
use Rattle.text.proofs.BufferLaws.{placed_not, placed_whole, placed_nothing}
use Rattle.text.proofs.ScalarLaws.{is_scalar_lem, encoded_is, gap_below, utf8_1, utf8_2, utf8_3, utf8_4, lengths}
use Rattle.text.proofs.TestLaws.{cond_both, either}

module _ (v : ℕ) where
  pub size_1 : v < 0x80 → 1 ≡ length (utf8 v)
  size_1 h = rw (utf8_1 v h)

  pub size_2 : 0x80 ≤ v → v < 0x800 → 2 ≡ length (utf8 v)
  size_2 l h = rw (utf8_2 v l h)

  pub size_3 : 0x800 ≤ v → v < 0x10000 → 3 ≡ length (utf8 v)
  size_3 l h = rw (utf8_3 v l h)

  pub size_4 : 0x10000 ≤ v → 4 ≡ length (utf8 v)
  size_4 l = rw (utf8_4 v l)

-- stores one after another
pub stores : (w d : List ℕ) (at : ℕ) → at + length w ≤ length d → sets d at w ≡ put d at w
unfolding put
stores w d at h = sets-eq w d at h

-- w is what `utf8` gives
written : (v : ℕ) (w d : List ℕ) (at : ℕ) → utf8 v ≡ w → at + length (utf8 v) ≤ length d → sets d at w ≡ put d at (utf8 v)
written v w d at e h = rw e (stores w d at (rw e at h))

module _ (v : ℕ) (d : List ℕ) (at : ℕ) where
  pub writes_1 : v < 0x80 → at + length (utf8 v) ≤ length d → set d at v ≡ put d at (utf8 v)
  writes_1 h r = written v (v ∷ []) d at (utf8_1 v h) r

  pub writes_2 : 0x80 ≤ v → v < 0x800 → at + length (utf8 v) ≤ length d → set (set d at (0xC0 + v / 64)) (at + 1) (0x80 + v % 64) ≡ put d at (utf8 v)
  writes_2 l h r =
      let one : at + 1 ≡ suc at = omega arith in
      rw one (written v ((0xC0 + v / 64) ∷ (0x80 + v % 64) ∷ []) d at (utf8_2 v l h) r)

  pub writes_3 : 0x800 ≤ v → v < 0x10000 → at + length (utf8 v) ≤ length d
      → set (set (set d at (0xE0 + v / 4096)) (at + 1) (0x80 + v / 64 % 64)) (at + 2) (0x80 + v % 64) ≡ put d at (utf8 v)
  writes_3 l h r =
      let one : at + 1 ≡ suc at = omega arith in
      let two : at + 2 ≡ suc (suc at) = omega arith in
      rw (one, two) (written v ((0xE0 + v / 4096) ∷ (0x80 + v / 64 % 64) ∷ (0x80 + v % 64) ∷ []) d at (utf8_3 v l h) r)

  pub writes_4 : 0x10000 ≤ v → at + length (utf8 v) ≤ length d
      → set (set (set (set d at (0xF0 + v / 262144)) (at + 1) (0x80 + v / 4096 % 64)) (at + 2) (0x80 + v / 64 % 64)) (at + 3) (0x80 + v % 64) ≡ put d at (utf8 v)
  writes_4 l r =
      let one : at + 1 ≡ suc at = omega arith in
      let two : at + 2 ≡ suc (suc at) = omega arith in
      let three : at + 3 ≡ suc (suc (suc at)) = omega arith in
      rw (one, two, three) (written v ((0xF0 + v / 262144) ∷ (0x80 + v / 4096 % 64) ∷ (0x80 + v / 64 % 64) ∷ (0x80 + v % 64) ∷ []) d at (utf8_4 v l) r)

-- ---- numbers that may be no scalar value

module _ (v : ℕ) where
  pub scalar_below : v < 0xD800 → ltb v 0xD800 ≡ is_scalar v
  scalar_below h = simp (lt-ltb v 0xD800 h, lt-ltb v 0x110000 (omega arith), lt-leb 0xD800 v h)

  pub scalar_above : 0xDFFF < v → ltb v 0x110000 ≡ is_scalar v
  scalar_above h = simp (le-leb 0xD800 v (omega arith), lt-leb v 0xDFFF h, and-true)

  pub scalar_gap : 0xD800 ≤ v → v ≤ 0xDFFF → ltb 0xDFFF v ≡ is_scalar v
  scalar_gap l h = simp (le-ltb 0xDFFF v h, le-leb 0xD800 v l, le-leb v 0xDFFF h, and-false)

  -- ---- the returns of `utf8_len`

  len_of : {n : ℕ} → is_scalar v ≡ true → n ≡ length (utf8 v) → n ≡ length (encoded utf8 v)
  len_of s e = rw (encoded_is v s) e

  pub len_1 : v < 0x80 → 1 ≡ length (encoded utf8 v)
  len_1 h = len_of (is_scalar_lem {v = v} (record { top = omega arith; gap = gap_below v (omega arith) })) (size_1 v h)

  pub len_2 : 0x80 ≤ v → v < 0x800 → 2 ≡ length (encoded utf8 v)
  len_2 l h = len_of (is_scalar_lem {v = v} (record { top = omega arith; gap = gap_below v (omega arith) })) (size_2 v l h)

  module _ {r : Bool} (is : r ≡ is_scalar v) where
    pub len_none : r ≡ false → 0 ≡ length (encoded utf8 v)
    len_none n = simp (sym is ∙ n)

    module _ (yes : r ≡ true) where
      pub len_3 : 0x800 ≤ v → v < 0x10000 → 3 ≡ length (encoded utf8 v)
      len_3 l h = len_of (sym is ∙ yes) (size_3 v l h)

      pub len_4 : 0x10000 ≤ v → 4 ≡ length (encoded utf8 v)
      len_4 l = len_of (sym is ∙ yes) (size_4 v l)

  -- ---- the returns of `put_scalar`

  module _ {n : ℕ} {d : List ℕ} {at : ℕ} (size : (n ≡ length (encoded utf8 v)) × (n ≤ 4)) where
    pub put_short : length d < n → Places d at (encoded utf8 v) at d
    put_short h = placed_not d at (encoded utf8 v) (omega arith)

    pub put_past : length d - n < at → Places d at (encoded utf8 v) at d
    put_past h = placed_not d at (encoded utf8 v) (omega arith)

    pub put_none : n ≡ 0 → Places d at (encoded utf8 v) at d
    put_none z =
        cond_both (λ (w : List ℕ). Places d at w at d) (is_scalar v) (utf8 v) []
        (λ e. absurd (omega (arith, ap length (encoded_is v e), lengths v))) (λ e. placed_nothing d at)

  module _ {n : ℕ} (some : n ≡ 0 → ⊥) (size : (n ≡ length (encoded utf8 v)) × (n ≤ 4)) where
    is_written : is_scalar v ≡ true
    is_written = either (is_scalar v) (λ e. e) (λ e. let z : n ≡ 0 = simp e at size.0 in absurd (some z))

    module _ (d : List ℕ) (at : ℕ) (h : n ≤ length d) (k : at ≤ length d - n) where
      put_room : at + length (utf8 v) ≤ length d
      put_room = omega (arith, ap length (encoded_is v is_written))

      pub put_done : {e : ℕ} {d' : List ℕ} → (e ≡ at + length (utf8 v)) × (d' ≡ put d at (utf8 v)) → Places d at (encoded utf8 v) e d'
      put_done p = rw (encoded_is v is_written) (placed_whole d at (utf8 v) put_room (record { end = p.0; buffer = p.1 }))

pub ruleset sizes_of = (size_1, size_2, size_3, size_4)

pub ruleset lens = (len_1, len_2, len_none, len_3, len_4)

pub ruleset scalar_tests = (scalar_below, scalar_above, scalar_gap)
