-- The loop of `copy_into`, and its returns.
-- Assumes nothing.
use Prim.Native.Nat.{ℕ, ◌+◌, ◌-◌, ◌≤◌, ◌<◌}
use mathlib.Core.Path.{◌≡◌, refl, sym, ap, ◌∙◌}
use mathlib.Core.List.{List, [], ◌∷◌, ◌++◌}
use native.Mathlib.Numerals.{add-one}
use native.Mathlib.Omega.{arith}
use lib.ListN.{length, get_or, take, set}
use lib.Seq.{length-take-le, take_all, take-suc}
use Rattle.text.specs.Buffer.{put, Places}
use Rattle.text.proofs.BufferLaws.{put_none, put_one, placed_not, placed_whole}

module _ {A : Type 0} (d : List A) (at : ℕ) (w : List A) where
  pub copy_past : length d < at → Places d at w at d
  copy_past h = placed_not d at w (omega arith)

  pub copy_short : length d - at < length w → Places d at w at d
  copy_short h = placed_not d at w (omega arith)

-- so many items of s are copied to d₀ from index at on, which gives d
pub record Copying {A : Type 0} (s d₀ : List A) (at : ℕ) (d : List A) (i : ℕ) : Type 0 where
  pub bound : i ≤ length s
  pub written : d ≡ put d₀ at (take i s)

module _ {A : Type 0} (s d₀ : List A) (at : ℕ) where
  pub copy_start : Copying s d₀ at d₀ 0
  copy_start = record { bound = omega arith; written = sym (put_none d₀ at) }

  module _ (room : at ≤ length d₀) (fits : length s ≤ length d₀ - at) {d : List A} {i : ℕ} (c : Copying s d₀ at d i) where
    pub copy_turn : i < length s → {x : A} → x ≡ get_or s i x → Copying s d₀ at (set d (at + i) x) (i + 1)
    copy_turn h {x} e =
        let l : length (take i s) ≡ i = length-take-le i s (omega arith) in
        record {
          bound = omega arith;
          written =
              ap (λ (b : List A). set b (at + i) x) c.written
              ∙ ap (λ (k : ℕ). set (put d₀ at (take i s)) (at + k) x) (sym l)
              ∙ put_one d₀ at (take i s) x (omega arith)
              ∙ ap (λ (y : A). put d₀ at (take i s ++ y ∷ [])) e
              ∙ ap (put d₀ at) (rw add-one (sym (take-suc s i x h)));
        }

    pub copy_last : length s ≤ i → Places d₀ at s (at + length s) d
    copy_last h = placed_whole d₀ at s (omega arith) (record { end = refl; buffer = c.written ∙ ap (put d₀ at) (take_all i s h) })
