-- Strings as parts of a text, by spans: document 01's house form, pairs of offset and length.
-- Assumes nothing.
use Rattle.std.specs.Prelude.{ℕ, zero, suc, ◌+◌, ◌*◌, ◌/◌, ◌%◌, leb, eqb, length, get_or, take, drop}
use mathlib.Core.List.{List, [], ◌∷◌, flat_map}
pub use Rattle.std.specs.Option.{is_some}
use Rattle.text.specs.Result.{Result, ok, check, fold_range, ◌>>◌}
use Rattle.text.specs.Utf8.{units_of}

-- "pairs of offset and length": the first number of pair i
abbrev pub offset_at : List ℕ → ℕ → ℕ
offset_at spans i = get_or spans (2 * i) 0

-- "pairs of offset and length": the second number of pair i
abbrev pub length_at : List ℕ → ℕ → ℕ
length_at spans i = get_or spans (2 * i + 1) 0

-- the end of span i
abbrev pub end_at : List ℕ → ℕ → ℕ
end_at spans i = offset_at spans i + length_at spans i

-- string i of a text
abbrev pub string_at : List ℕ → List ℕ → ℕ → List ℕ
string_at text spans i = take (length_at spans i) (drop (offset_at spans i) text)

-- the n strings from string i on
unfoldable pub strings_from : List ℕ → List ℕ → ℕ → ℕ → List (List ℕ)
strings_from text spans i zero = []
strings_from text spans i (suc n) = string_at text spans i ∷ strings_from text spans (suc i) n

-- all strings of the spans
abbrev pub strings_in : List ℕ → List ℕ → List (List ℕ)
strings_in text spans = strings_from text spans 0 (length spans / 2)

-- strings end to end
abbrev pub joined : List (List ℕ) → List ℕ
joined strings = flat_map (λ s. s) strings

-- the spans of strings end to end, where the first begins at o
unfoldable pub spans_from : ℕ → List (List ℕ) → List ℕ
spans_from o [] = []
spans_from o (s ∷ ss) = o ∷ length s ∷ spans_from (o + length s) ss

-- 30 for string i, where the span before it ends at `end`: "each at or after the end of the one before", "within the text", "and each string
-- well-formed UTF-8"
unfoldable pub check_string : List ℕ → List ℕ → ℕ → ℕ → Result ℕ
check_string text spans i end = do
  check 30 (leb end (offset_at spans i)) i
  check 30 (leb (end_at spans i) (length text)) i
  check 30 (is_some (units_of (string_at text spans i))) i
  ok (end_at spans i)

-- 30: "Place: the number of values if odd, else the first bad string"
unfoldable pub check_strings : List ℕ → List ℕ → Result (List (List ℕ))
check_strings text spans = do
  check 30 (eqb (length spans % 2) 0) (length spans)
  fold_range (check_string text spans) 0 (length spans / 2) 0
  ok (strings_in text spans)
