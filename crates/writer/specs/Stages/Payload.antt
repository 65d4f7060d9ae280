-- What the private stages of writing a payload promise each other.
-- Assumes nothing.
use Rattle.std.specs.Prelude.{ℕ, ◌≤◌, ◌+◌, ◌/◌, ◌<◌, ◌*◌, ◌≡◌, List, length}
use Rattle.std.specs.Prelude.{Option, Some, None}
use Rattle.text.specs.Result.{Result, ok, error, fold_range, ◌>>◌}
use Rattle.text.specs.Utf8.{units_of}
use Rattle.writer.specs.Array.{string_units, all_units, Array, payload, array_of, string_words}
use Rattle.writer.specs.Spans.{string_at, check_string, strings_from, strings_in, end_at}
use Rattle.writer.specs.declared.checks.StringSize.{StringSize}

-- the end of string i's span, or 30
abbrev pub string_end : ℕ → Option StringSize → Result ℕ
string_end i (Some s) = ok s.end
string_end i None = error (record { number = 30; place = i })

-- a string that was measured has so many units
abbrev pub HasUnits : List ℕ → Option StringSize → Type 0
HasUnits s (Some z) = z.units ≡ length (string_units s)
HasUnits s None = Unit

-- 30 for string i, where the span before it ends at `end`, and its units
pub record MeasuresString (text spans : List ℕ) (i end : ℕ) (r : Option StringSize) : Type 0 where
  pub checked : string_end i r ≡ check_string text spans i end
  pub units : HasUnits (string_at text spans i) r

-- the units of n strings, or 30
unfoldable pub measured_strings : List ℕ → List ℕ → ℕ → Result ℕ
measured_strings text spans n = fold_range (check_string text spans) 0 n 0 >> ok (length (all_units (strings_from text spans 0 n)))

-- the array that dimensions and spans name
abbrev pub array_in : List ℕ → List ℕ → List ℕ → Array
array_in dims text spans = record { dims = dims; strings = strings_in text spans }

-- the array passed its checks, and its payload fits
pub record PayloadFits (dims text spans : List ℕ) (room : ℕ) : Type 0 where
  pub passed : array_of dims text spans ≡ ok (array_in dims text spans)
  pub fits : length (payload (array_in dims text spans)) ≤ room

-- every string lies in the text and is well-formed, and there is room for their words
pub record StringsFit (text spans : List ℕ) (room : ℕ) : Type 0 where
  pub inside : (i : ℕ) → i < length spans / 2 → end_at spans i ≤ length text
  pub well_formed : (i : ℕ) → i < length spans / 2 → units_of (string_at text spans i) ≡ Some (string_units (string_at text spans i))
  pub fits : length (string_words (strings_in text spans)) ≤ room

-- string i lies in the text
pub record HasString (text spans : List ℕ) (i : ℕ) : Type 0 where
  pub there : 2 * i + 1 < length spans
  pub inside : end_at spans i ≤ length text
