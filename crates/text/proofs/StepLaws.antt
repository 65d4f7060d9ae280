-- What `step_at` is, by the tests that the code makes: a law for each return of `sequence_at`. The premises are as the code's tests and calls give them.
-- Assumes nothing.
use mathlib.Core.Path.{◌≡◌, refl, ◌∙◌, sym, ap}
use mathlib.Core.Bool.{Bool, true, false, not, ◌&&◌}
use mathlib.Core.List.{List, [], ◌∷◌}
use Prim.Native.Nat.{ℕ, ◌+◌, ◌*◌, ◌%◌, ◌≤◌, ◌<◌, zero-le}
use native.Mathlib.Omega.{arith}
use borrow.Author.Tests.{lt-ltb, le-ltb, lt-leb, ltb-true, leb-true, ne_eqb, not-true, not-false}
use lib.Dec.{ltb, leb}
use lib.ListN.{length, get_or}
use Rattle.text.specs.declared.utf8.Step.TheVariants.{Scalar, IllFormed, End}
use Rattle.text.specs.Unicode.{within}
use Rattle.text.specs.Utf8.{Range, Row, table, find, sequence_length, second_range, has_in, matched, value_at, whole_at, next_at, step_at}
use Rattle.text.proofs.TestLaws.{and_is, cond_both}

-- no row is longer than four bytes, by a test of each row
abbrev short : List Row → Bool
short [] = true
short (r ∷ rs) = leb r.bytes 4 && short rs

find_le : (rs : List Row) → short rs ≡ true → (b : ℕ) → (find rs b).bytes ≤ 4
unfolding find
find_le [] t b = zero-le
find_le (r ∷ rs) t b =
    cond_both (λ (x : Row). x.bytes ≤ 4) (within r.first_low r.first_high b) r (find rs b)
    (λ _. leb-true r.bytes 4 (and_is (leb r.bytes 4) (short rs) t).0) (λ _. find_le rs (and_is (leb r.bytes 4) (short rs) t).1 b)

pub length_le : (b : ℕ) → sequence_length b ≤ 4
unfolding sequence_length table
length_le b = find_le table refl b

-- the value of a sequence by its size
module _ (s : List ℕ) (i : ℕ) where
  pub value_2 : value_at s i 2 ≡ get_or s i 0 % 32 * 64 + get_or s (i + 1) 0 % 64
  unfolding value_at
  value_2 = refl

  pub value_3 : value_at s i 3 ≡ get_or s i 0 % 16 * 4096 + get_or s (i + 1) 0 % 64 * 64 + get_or s (i + 2) 0 % 64
  unfolding value_at
  value_3 = refl

  pub value_4 : value_at s i 4 ≡ get_or s i 0 % 8 * 262144 + get_or s (i + 1) 0 % 64 * 4096 + get_or s (i + 2) 0 % 64 * 64 + get_or s (i + 3) 0 % 64
  unfolding value_at
  value_4 = refl

-- a byte that was found is there
pub has_at : (s : List ℕ) (i lo hi : ℕ) → has_in s i lo hi ≡ true → i < length s
unfolding has_in
has_at s i lo hi e = ltb-true i (length s) (and_is (ltb i (length s)) (within lo hi (get_or s i 0)) e).0

pub past : (s : List ℕ) (at : ℕ) → length s ≤ at → End ≡ step_at s at
unfolding step_at
past s at h = simp (le-ltb _ _ h)

module _ (s : List ℕ) (at n : ℕ) (here : at < length s) (len : n ≡ sequence_length (get_or s at 0)) where
  pub starts_none : n ≡ 0 → IllFormed (at + 1) ≡ step_at s at
  unfolding step_at whole_at next_at matched
  starts_none e = simp (lt-ltb _ _ here, sym len ∙ e)

  pub one : n ≡ 1 → Scalar (get_or s at 0) (at + 1) ≡ step_at s at
  unfolding step_at whole_at next_at matched value_at
  one e = simp (lt-ltb _ _ here, sym len ∙ e)

  module _ (n0 : n ≡ 0 → ⊥) (n1 : n ≡ 1 → ⊥) (g : Range) (is_range : g ≡ second_range (get_or s at 0)) (r : Bool) (is_has : r ≡ has_in s (at + 1) g.low g.high) where
    second : has_in s (at + 1) (second_range (get_or s at 0)).low (second_range (get_or s at 0)).high ≡ r
    second = ap (λ (x : Range). has_in s (at + 1) x.low x.high) (sym is_range) ∙ sym is_has

    pub no_second : not r ≡ true → IllFormed (at + 1) ≡ step_at s at
    unfolding step_at whole_at next_at matched
    no_second t =
        simp (lt-ltb _ _ here, sym len, lt-leb n 1 (omega arith), second ∙ not-true r t, lt-ltb 0 n (omega arith), ne_eqb 1 n (λ e. n1 (sym e)))

    module _ (y : not r ≡ false) where
      pub two : n ≡ 2 → {v : ℕ} → v ≡ value_at s at 2 → Scalar v (at + 2) ≡ step_at s at
      unfolding step_at whole_at next_at matched
      two e is = rw is (simp (lt-ltb _ _ here, sym len ∙ e, second ∙ not-false r y))

      module _ (n2 : n ≡ 2 → ⊥) (r2 : Bool) (is_has2 : r2 ≡ has_in s (at + 2) 0x80 0xBF) where
        pub no_third : not r2 ≡ true → IllFormed (at + 2) ≡ step_at s at
        unfolding step_at whole_at next_at matched
        no_third t =
            simp (lt-ltb _ _ here, sym len, lt-leb n 1 (omega arith), second ∙ not-false r y, ne_eqb n 2 n2, sym is_has2 ∙ not-true r2 t, lt-ltb 0 n (omega arith), ne_eqb 2 n (λ e. n2 (sym e)))

        module _ (y2 : not r2 ≡ false) where
          pub three : n ≡ 3 → {v : ℕ} → v ≡ value_at s at 3 → Scalar v (at + 3) ≡ step_at s at
          unfolding step_at whole_at next_at matched
          three e is = rw is (simp (lt-ltb _ _ here, sym len ∙ e, second ∙ not-false r y, sym is_has2 ∙ not-false r2 y2))

          module _ (n3 : n ≡ 3 → ⊥) (r3 : Bool) (is_has3 : r3 ≡ has_in s (at + 3) 0x80 0xBF) where
            four_is : n ≡ 4
            four_is = omega (arith, length_le (get_or s at 0))

            pub no_fourth : not r3 ≡ true → IllFormed (at + 3) ≡ step_at s at
            unfolding step_at whole_at next_at matched
            no_fourth t =
                simp (lt-ltb _ _ here, sym len ∙ four_is, second ∙ not-false r y, sym is_has2 ∙ not-false r2 y2, sym is_has3 ∙ not-true r3 t)

            pub four : not r3 ≡ false → {v : ℕ} → v ≡ value_at s at 4 → Scalar v (at + 4) ≡ step_at s at
            unfolding step_at whole_at next_at matched
            four t is =
                rw is
                (simp (lt-ltb _ _ here, sym len ∙ four_is, second ∙ not-false r y, sym is_has2 ∙ not-false r2 y2, sym is_has3 ∙ not-false r3 t))
