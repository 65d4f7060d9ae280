-- Code units in words: the steps of decoding them, and the longest text of units.
-- Assumes nothing.
use mathlib.Core.Path.{◌≡◌, refl, ◌∙◌, ap}
use mathlib.Core.Bool.{Bool, true, false, ◌&&◌}
use mathlib.Core.List.{List, [], ◌∷◌}
use Rattle.std.specs.Prelude.{Some, None}
use Prim.Native.Nat.{ℕ, zero, suc, ◌+◌, ◌-◌, ◌*◌, ◌≤◌, ◌<◌}
use native.Mathlib.Omega.{arith}
use borrow.Author.Tests.{lt-ltb, le-ltb, ltb-true}
use lib.Dec.{ltb}
use lib.ListN.{length, get_or}
use Rattle.text.specs.Unicode.{Below, is_high_surrogate, is_low_surrogate, is_surrogate, utf8s}
use Rattle.text.specs.Utf16.{pair_value, scalar, unit_step, scalars16, text_of}
use Rattle.text.specs.Stages.Utf16.{unit_step_at}
use Rattle.text.proofs.utf16.Decode.{single_step, alone_step, pair_step, unpaired_step, Reading, reads_start}
use Rattle.text.proofs.ScalarLaws.{gap_below, bytes_le}
use Rattle.text.proofs.TestLaws.{and_is}
use Rattle.text.proofs.Utf8Laws.{map_is}
use Rattle.text.proofs.Utf16Laws.{spelled16}
use Rattle.reader.specs.Units.{unit_at, units_in}

pub length_units : (w : List ℕ) (first k n : ℕ) → length (units_in w first k n) ≡ n
unfolding units_in
length_units w first k zero = refl
length_units w first k (suc n) = ap suc (length_units w first (suc k) n)

pub units_below : (w : List ℕ) (first k n : ℕ) → Below 65536 (units_in w first k n)
unfolding units_in unit_at
units_below w first k zero = tt
units_below w first k (suc n) = (omega arith, units_below w first (suc k) n)

-- unit i of them
pub unit_of : (w : List ℕ) (first k n i : ℕ) → i < n → get_or (units_in w first k n) i 0 ≡ unit_at w first (k + i)
unfolding units_in
unit_of w first k zero i h = absurd (omega arith)
unit_of w first k (suc n) zero h =
    let z : k + 0 ≡ k = omega arith in
    rw z
unit_of w first k (suc n) (suc i) h =
    let s : k + suc i ≡ suc k + i = omega arith in
    rw s (unit_of w first (suc k) n i (omega arith))

below_at : (b : ℕ) (us : List ℕ) → 0 < b → Below b us → (i : ℕ) → get_or us i 0 < b
below_at b [] p h i = p
below_at b (u ∷ us) p h zero = h.0
below_at b (u ∷ us) p h (suc i) = below_at b us p h.1 i

pub reads_units : (w : List ℕ) (first k n : ℕ) → Reading (units_in w first k n) 0
reads_units w first k n = reads_start (units_in w first k n) (below_at 65536 (units_in w first k n) (omega arith) (units_below w first k n))

-- ---- a surrogate is the first of a pair, or has no partner

pub record Pair (us : List ℕ) (i : ℕ) : Type 0 where
  pub more : i + 1 < length us
  pub high : is_high_surrogate (get_or us i 0) ≡ true
  pub low : is_low_surrogate (get_or us (i + 1) 0) ≡ true
  pub is : Some (scalar (pair_value (get_or us i 0) (get_or us (i + 1) 0)) 2) ≡ unit_step_at us i

pub pair_by : (us : List ℕ) (i : ℕ) (more pair : Bool) → is_surrogate (get_or us i 0) ≡ true → ltb (i + 1) (length us) ≡ more
    → (is_high_surrogate (get_or us i 0) && is_low_surrogate (get_or us (i + 1) 0)) ≡ pair → (None ≡ unit_step_at us i → ⊥) → Pair us i
pair_by us i true true g m p never =
    let h = and_is _ _ p in
    record { more = ltb-true _ _ m; high = h.0; low = h.1; is = rw m (pair_step _ _ g p) }
pair_by us i true false g m p never = absurd (never (rw m (unpaired_step _ _ g p)))
pair_by us i false pair g m p never = absurd (never (rw m (alone_step _ _ g)))

-- ---- one step of decoding at index i of n units, by the unit there and the one after it

module _ (w : List ℕ) (first k n i : ℕ) {u : ℕ} (h : i < n) (eu : u ≡ unit_at w first (k + i)) where
  -- no surrogate: the unit alone
  pub step_single : is_surrogate u ≡ false → Some (scalar u 1) ≡ unit_step_at (units_in w first k n) i
  step_single g = rw (unit_of w first k n i h, ← eu) (single_step u _ _ g)

  pub step_one : u < 0xD800 → Some (scalar u 1) ≡ unit_step_at (units_in w first k n) i
  step_one l = step_single (gap_below u l)

  module _ (g : is_surrogate u ≡ true) where
    -- the last unit
    pub step_last : n - i < 2 → None ≡ unit_step_at (units_in w first k n) i
    step_last l =
        let m = length_units w first k n in
        rw (unit_of w first k n i h, ← eu, le-ltb (i + 1) (length (units_in w first k n)) (omega arith)) (alone_step u _ g)

    module _ (l : 2 ≤ n - i) {v : ℕ} (ev : v ≡ unit_at w first (k + (i + 1))) where
      step_more : unit_step u v true ≡ unit_step_at (units_in w first k n) i
      step_more =
          let m = length_units w first k n in
          rw (unit_of w first k n i h, unit_of w first k n (i + 1) (omega arith), lt-ltb (i + 1) (length (units_in w first k n)) (omega arith), eu, ev)

      pub step_pair : (is_high_surrogate u && is_low_surrogate v) ≡ true → Some (scalar (pair_value u v) 2) ≡ unit_step_at (units_in w first k n) i
      step_pair p = pair_step u v g p ∙ step_more

      pub step_unpaired : (is_high_surrogate u && is_low_surrogate v) ≡ false → None ≡ unit_step_at (units_in w first k n) i
      step_unpaired p = unpaired_step u v g p ∙ step_more

-- a text has at most three bytes a unit
pub text_most : (w : List ℕ) (first k n : ℕ) {t : List ℕ} → text_of (units_in w first k n) ≡ Some t → length t ≤ 3 * n
text_most w first k n e =
    let o = map_is utf8s (scalars16 (units_in w first k n)) e in
    let s = spelled16 (units_in w first k n) (units_below w first k n) o.0 o.1.0 in
    omega (arith, ap length s.units, ap length o.1.1, bytes_le o.0, length_units w first k n)
