-- The length of a whole sequence: the return of `has_second`, and a law for each return of `whole_length`.
-- Assumes nothing.
use mathlib.Core.Path.{◌≡◌, refl, ◌∙◌, sym, ap}
use mathlib.Core.Bool.{Bool, true, false, cond, not, ◌&&◌, and-false}
use mathlib.Core.List.{List}
use Rattle.std.specs.Prelude.{Option, Some, None}
use Prim.Native.Nat.{ℕ, ◌+◌, ◌≤◌}
use native.Mathlib.Omega.{arith}
use borrow.Author.Tests.{eqb-true, eqb-false, not-true, not-false}
use lib.Dec.{eqb}
use lib.ListN.{get_or}
use Rattle.text.specs.Stages.Utf8.{has_second, whole_length}
use Rattle.text.specs.Utf8.{Range, sequence_length, second_range, has_in, matched, whole_at}
use Rattle.text.proofs.LeadLaws.{not_one}
use Rattle.text.proofs.StepLaws.{length_le}

pub second_by : (s : List ℕ) (at : ℕ) {g : Range} {r : Bool} → g ≡ second_range (get_or s at 0) → r ≡ has_in s (at + 1) g.low g.high
    → r ≡ has_second s at
unfolding has_second
second_by s at e h = h ∙ ap (λ (x : Range). has_in s (at + 1) x.low x.high) e

-- ---- by the tests of `matched`: of three bytes and of four, all later bytes have to be there

of_three : (b c : Bool)
    → ◌≡◌ {A = Option ℕ} (cond (eqb (cond b (cond c 3 2) 1) 3) (Some (cond b (cond c 3 2) 1)) None) (cond (b && c) (Some 3) None)
of_three true true = refl
of_three true false = refl
of_three false c = refl

of_four : (b c d : Bool)
    → ◌≡◌ {A = Option ℕ} (cond (eqb (cond b (cond c (cond d 4 3) 2) 1) 4) (Some (cond b (cond c (cond d 4 3) 2) 1)) None) (cond (b && (c && d)) (Some 4) None)
of_four true true true = refl
of_four true true false = refl
of_four true false d = refl
of_four false c d = refl

module _ (s : List ℕ) (at : ℕ) where
  of_length : (k : ℕ) {r : Bool} → r ≡ eqb (sequence_length (get_or s at 0)) k → r ≡ true → sequence_length (get_or s at 0) ≡ k
  of_length k e t = eqb-true (sequence_length (get_or s at 0)) k (sym e ∙ t)

  not_length : (k : ℕ) {r : Bool} → r ≡ eqb (sequence_length (get_or s at 0)) k → r ≡ false → sequence_length (get_or s at 0) ≡ k → ⊥
  not_length k e t = eqb-false (sequence_length (get_or s at 0)) k (sym e ∙ t)

  whole_3 : sequence_length (get_or s at 0) ≡ 3 → whole_length s at ≡ cond (has_second s at && has_in s (at + 2) 0x80 0xBF) (Some 3) None
  unfolding whole_length whole_at matched has_second
  whole_3 e = simp e (of_three (has_second s at) (has_in s (at + 2) 0x80 0xBF))

  whole_4 : sequence_length (get_or s at 0) ≡ 4
      → whole_length s at ≡ cond (has_second s at && (has_in s (at + 2) 0x80 0xBF && has_in s (at + 3) 0x80 0xBF)) (Some 4) None
  unfolding whole_length whole_at matched has_second
  whole_4 e = simp e (of_four (has_second s at) (has_in s (at + 2) 0x80 0xBF) (has_in s (at + 3) 0x80 0xBF))

  module _ {r₀ : Bool} (is₀ : r₀ ≡ eqb (sequence_length (get_or s at 0)) 0) where
    pub size_none : r₀ ≡ true → None ≡ whole_length s at
    unfolding whole_length whole_at
    size_none t = simp (of_length 0 is₀ t)

    module _ (n₀ : r₀ ≡ false) {r₂ : Bool} (is₂ : r₂ ≡ eqb (sequence_length (get_or s at 0)) 2) where
      -- ---- two bytes

      module _ (t : r₂ ≡ true) {b : Bool} (is_b : b ≡ has_second s at) where
        pub two_no_second : not b ≡ true → None ≡ whole_length s at
        unfolding whole_length whole_at matched has_second
        two_no_second f = simp (of_length 2 is₂ t, sym is_b ∙ not-true b f)

        pub size_2 : not b ≡ false → Some 2 ≡ whole_length s at
        unfolding whole_length whole_at matched has_second
        size_2 f = simp (of_length 2 is₂ t, sym is_b ∙ not-false b f)

      module _ (n₂ : r₂ ≡ false) {r₃ : Bool} (is₃ : r₃ ≡ eqb (sequence_length (get_or s at 0)) 3) where
        -- ---- three bytes

        module _ (t : r₃ ≡ true) {c : Bool} (is_c : c ≡ has_in s (at + 2) 0x80 0xBF) where
          three : whole_length s at ≡ cond (has_second s at && c) (Some 3) None
          three = rw is_c (whole_3 (of_length 3 is₃ t))

          pub three_no_third : not c ≡ true → None ≡ whole_length s at
          three_no_third f = sym (three ∙ simp (not-true c f, and-false))

          module _ (y : not c ≡ false) {b : Bool} (is_b : b ≡ has_second s at) where
            pub three_no_second : not b ≡ true → None ≡ whole_length s at
            three_no_second f = sym (three ∙ simp (sym is_b ∙ not-true b f))

            pub size_3 : not b ≡ false → Some 3 ≡ whole_length s at
            size_3 f = sym (three ∙ simp (sym is_b ∙ not-false b f, not-false c y))

        -- ---- four bytes

        module _ (l : 128 ≤ get_or s at 0) (n₃ : r₃ ≡ false) {d : Bool} (is_d : d ≡ has_in s (at + 3) 0x80 0xBF) where
          is_four : sequence_length (get_or s at 0) ≡ 4
          is_four =
              omega (arith, length_le (get_or s at 0), not_length 0 is₀ n₀, not_one (get_or s at 0) l, not_length 2 is₂ n₂, not_length 3 is₃ n₃)

          pub four_no_fourth : not d ≡ true → None ≡ whole_length s at
          four_no_fourth f = sym (whole_4 is_four ∙ simp (sym is_d ∙ not-true d f, and-false))

          module _ (y : not d ≡ false) {c : Bool} (is_c : c ≡ has_in s (at + 2) 0x80 0xBF) where
            pub four_no_third : not c ≡ true → None ≡ whole_length s at
            four_no_third f = sym (whole_4 is_four ∙ simp (sym is_c ∙ not-true c f, and-false))

            module _ (y₂ : not c ≡ false) {b : Bool} (is_b : b ≡ has_second s at) where
              pub four_no_second : not b ≡ true → None ≡ whole_length s at
              four_no_second f = sym (whole_4 is_four ∙ simp (sym is_b ∙ not-true b f))

              pub size_4 : not b ≡ false → Some 4 ≡ whole_length s at
              size_4 f = sym (whole_4 is_four ∙ simp (sym is_b ∙ not-false b f, sym is_c ∙ not-false c y₂, sym is_d ∙ not-false d y))

pub ruleset sizes = (size_none, two_no_second, size_2, three_no_third, three_no_second, size_3, four_no_fourth, four_no_third, four_no_second, size_4)
