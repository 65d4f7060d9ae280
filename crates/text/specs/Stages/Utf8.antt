-- What the private stages of reading UTF-8 promise each other.
-- Assumes nothing.
use Rattle.std.specs.Prelude.{ℕ, ◌≡◌, ◌+◌, Bool, true, false, cond, List, eqb, get_or}
use Rattle.std.specs.Prelude.{Option, Some, None}
use Rattle.std.specs.declared.ops.RangeInclusive.{RangeInclusive}
use Rattle.std.specs.Range.{range_inclusive_start, range_inclusive_end}
use Rattle.text.specs.Utf8.{Range, second_range, has_in, matched, whole_at}
use Rattle.text.specs.declared.utf8.Step.{Step}
use Rattle.text.specs.declared.utf8.Step.TheVariants.{Scalar, IllFormed, End}

-- r goes from the low end of g to the high one
abbrev pub IsRange : RangeInclusive ℕ → Range → Type 0
IsRange r g = record { low = range_inclusive_start r; high = range_inclusive_end r } ≡ g

-- a step found the scalar value v
unfoldable pub step_has : Step → ℕ → Bool
step_has (Scalar w n) v = eqb w v
step_has (IllFormed n) v = false
step_has End v = false

-- the byte after that at i is in the range that this one gives it
unfoldable pub has_second : List ℕ → ℕ → Bool
has_second s i = has_in s (i + 1) (second_range (get_or s i 0)).low (second_range (get_or s i 0)).high

-- the length of the well-formed sequence at i, none where there is none
unfoldable pub whole_length : List ℕ → ℕ → Option ℕ
whole_length s i = cond (whole_at s i) (Some (matched s i)) None

-- the scalar values of parts are there: no part is ill-formed
abbrev pub is_text : Option (List ℕ) → Bool
is_text (Some vs) = true
is_text None = false
