-- A sequence of two bytes or more in a well-formed text: its first byte alone tells its length.
-- Assumes nothing.
use mathlib.Core.Path.{◌≡◌, ◌∙◌, sym, refl, ap₂}
use mathlib.Core.Bool.{Bool, true, false}
use mathlib.Core.List.{List}
use Prim.Native.Nat.{ℕ, ◌+◌, ◌*◌, ◌%◌, ◌≤◌, ◌<◌}
use native.Mathlib.Omega.{arith}
use borrow.Author.Tests.{eqb-true, eqb-false}
use lib.Dec.{eqb}
use lib.ListN.{length, get_or}
use Rattle.text.specs.Utf8.{sequence_length, value_at, step_at}
use Rattle.text.specs.declared.utf8.Step.TheVariants.{Scalar}
use Rattle.text.proofs.LeadLaws.{not_one}
use Rattle.text.proofs.PartLaws.{Reads, step_reads}
use Rattle.text.proofs.StepLaws.{length_le, value_2, value_3, value_4}
use Rattle.text.proofs.Utf8Laws.{starts, value_is, next_after}
use Rattle.writer.specs.Stages.Packing.{SequenceAt}

module _ (s : List ℕ) (i : ℕ) (q : SequenceAt s i) where
  reads : Reads s i q.value q.next
  reads = step_reads s i q.is

  more : 2 ≤ sequence_length (get_or s i 0)
  more = omega (arith, starts s i q.value q.next reads, not_one (get_or s i 0) q.long)

  step_is : (k : ℕ) → sequence_length (get_or s i 0) ≡ k → 0 < k → step_at s i ≡ Scalar (value_at s i k) (i + k)
  step_is k e h = q.is ∙ ap₂ Scalar (value_is s i q.value q.next reads k e) (next_after s i q.value q.next reads k e h)

  inside : i + sequence_length (get_or s i 0) ≤ length s
  inside =
      omega
      (arith, reads.advance.inside, next_after s i q.value q.next reads (sequence_length (get_or s i 0)) refl (omega (arith, more)))

  -- ---- the reads, sums and returns of `sequence_at`

  pub second_there : i + 1 < length s
  second_there = omega (arith, more, inside)

  module _ {r₄ : Bool} (is₄ : r₄ ≡ eqb (sequence_length (get_or s i 0)) 4) where
    module _ (t : r₄ ≡ true) where
      four : sequence_length (get_or s i 0) ≡ 4
      four = eqb-true (sequence_length (get_or s i 0)) 4 (sym is₄ ∙ t)

      pub fourth_there : i + 3 < length s
      fourth_there = omega (arith, four, inside)

      pub of_four :
          step_at s i
          ≡ Scalar (get_or s i 0 % 8 * 262144 + get_or s (i + 1) 0 % 64 * 4096 + get_or s (i + 2) 0 % 64 * 64 + get_or s (i + 3) 0 % 64) (i + 4)
      of_four = rw (value_4 s i) at (step_is 4 four (omega arith))

    module _ (n₄ : r₄ ≡ false) {r₂ : Bool} (is₂ : r₂ ≡ eqb (sequence_length (get_or s i 0)) 2) where
      pub of_two : r₂ ≡ true → step_at s i ≡ Scalar (get_or s i 0 % 32 * 64 + get_or s (i + 1) 0 % 64) (i + 2)
      of_two t = rw (value_2 s i) at (step_is 2 (eqb-true (sequence_length (get_or s i 0)) 2 (sym is₂ ∙ t)) (omega arith))

      module _ (n₂ : r₂ ≡ false) where
        three : sequence_length (get_or s i 0) ≡ 3
        three =
            omega
            (arith, more, length_le (get_or s i 0), eqb-false (sequence_length (get_or s i 0)) 4 (sym is₄ ∙ n₄), eqb-false (sequence_length (get_or s i 0)) 2 (sym is₂ ∙ n₂))

        pub third_there : i + 2 < length s
        third_there = omega (arith, three, inside)

        pub of_three : step_at s i ≡ Scalar (get_or s i 0 % 16 * 4096 + get_or s (i + 1) 0 % 64 * 64 + get_or s (i + 2) 0 % 64) (i + 3)
        of_three = rw (value_3 s i) at (step_is 3 three (omega arith))

pub ruleset sequences = (second_there, fourth_there, third_there, of_four, of_two, of_three)
