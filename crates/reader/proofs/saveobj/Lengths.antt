-- Check 27: the code units of a string, the loop of `sum_lengths`, and sums that only grow.
-- Assumes nothing.
use Prim.Native.Nat.{ℕ, zero, suc, ◌+◌, ◌-◌, ◌^◌, ◌≤◌, ◌<◌}
use mathlib.Core.Path.{◌≡◌, refl, ◌∙◌, subst}
use mathlib.Core.Bool.{Bool}
use mathlib.Core.List.{List}
use native.Mathlib.Numerals.{add-one}
use native.Mathlib.Omega.{arith}
use borrow.Author.Tests.{lt-ltb, le-ltb, eq-eqb, ne_eqb}
use lib.Dec.{ltb}
use lib.ListN.{get_or}
use Rattle.text.specs.Result.{ok, error}
use Rattle.text.proofs.ResultLaws.{Checks, checks_start, checks_turn, checks_stop, checks_last}
use Rattle.reader.specs.Saveobj.{unit_count, units_before, check_sum}

module _ (payload : List ℕ) (base : ℕ) where
  pub count_missing : (i : ℕ) → get_or payload (base + i) 0 ≡ 2 ^ 64 - 1 → 0 ≡ unit_count payload base i
  unfolding unit_count
  count_missing i e = simp (eq-eqb (get_or payload (base + i) 0) (2 ^ 64 - 1) e)

  pub count_given : (i : ℕ) {count : ℕ} → (get_or payload (base + i) 0 ≡ 2 ^ 64 - 1 → ⊥) → count ≡ get_or payload (base + i) 0 → count ≡ unit_count payload base i
  unfolding unit_count
  count_given i e c = c ∙ simp (ne_eqb (get_or payload (base + i) 0) (2 ^ 64 - 1) e)

  pub units_next : (i : ℕ) → units_before payload base (i + 1) ≡ units_before payload base i + unit_count payload base i
  unfolding units_before
  units_next i = rw (add-one i)

  units_grow : (i k : ℕ) → units_before payload base i ≤ units_before payload base (i + k)
  units_grow i zero =
      let z : i + 0 ≡ i = omega arith in
      rw z (omega arith)
  units_grow i (suc k) =
      let s : i + suc k ≡ i + k + 1 = omega arith in
      rw s (omega (arith, units_grow i k, units_next (i + k)))

  pub units_most : (i n : ℕ) → i ≤ n → units_before payload base i ≤ units_before payload base n
  units_most i n h =
      let e : i + (n - i) ≡ n = omega arith in
      subst (λ (k : ℕ). units_before payload base i ≤ units_before payload base k) e (units_grow i (n - i))

abbrev pub sum_fits : List ℕ → ℕ → ℕ → Bool
sum_fits payload base i = ltb (units_before payload base (suc i)) (2 ^ 64)

-- 27 holds of the lengths before i, and this is their sum
pub record Summing (payload : List ℕ) (base n sum i : ℕ) : Type 0 where
  pub is : sum ≡ units_before payload base i
  pub below : sum < 2 ^ 64
  pub checks : Checks 27 (sum_fits payload base) 0 n i

module _ (payload : List ℕ) (base n : ℕ) where
  pub sum_start : Summing payload base n 0 0
  unfolding units_before
  sum_start = record { is = refl; below = omega arith; checks = checks_start 27 (sum_fits payload base) 0 n (omega arith) }

  module _ {sum i count : ℕ} (m : Summing payload base n sum i) (h : i < n) (e : count ≡ unit_count payload base i) where
    pub sum_turn : {more : ℕ} → (sum + count < 2 ^ 64) × (more ≡ sum + count) → Summing payload base n more (i + 1)
    unfolding units_before
    sum_turn l =
        let k = m.is in
        record {
          is = rw (add-one i) (omega (arith, l.1));
          below = omega (arith, l.0, l.1);
          checks =
              checks_turn 27 (sum_fits payload base) 0 n m.checks h
              (lt-ltb (units_before payload base i + unit_count payload base i) (2 ^ 64) (omega (arith, l.0)));
        }

    pub sum_stop : (sum + count < 2 ^ 64 → ⊥) → error (record { number = 27; place = i }) ≡ check_sum payload base n
    unfolding check_sum units_before
    sum_stop l =
        let k = m.is in
        rw (checks_stop 27 (sum_fits payload base) 0 n m.checks h
        (le-ltb (units_before payload base i + unit_count payload base i) (2 ^ 64) (omega (arith, l))))

  pub sum_last : {sum i : ℕ} → Summing payload base n sum i → n ≤ i → ok sum ≡ check_sum payload base n
  unfolding check_sum
  sum_last {sum} {i} m h =
      let s : i ≡ n = omega (arith, m.checks.bound) in
      rw (checks_last 27 (sum_fits payload base) 0 n m.checks h, m.is, s)
