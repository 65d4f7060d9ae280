-- An array of strings, its saveobj payload, and the checks of writing one.
-- Assumes nothing.
use Rattle.std.specs.Prelude.{ℕ, ◌≡◌, Bool, false, leb, eqb, length, Ok, Err, Result as Reply}
use mathlib.Core.List.{List, [], ◌∷◌, ◌++◌, map, flat_map}
use Rattle.std.specs.Option.{unwrap_or}
use Rattle.text.specs.Product.{product_of}
use Rattle.text.specs.Result.{Result, ok, check, check_output, ◌>>◌, ◌>>=◌}
use Rattle.text.specs.Utf8.{units_of}
use Rattle.writer.specs.Spans.{joined, spans_from, check_strings}
use Rattle.writer.specs.Words.{packed}

-- dimensions, and strings in UTF-8
pub record Array : Type 0 where
  pub dims : List ℕ
  pub strings : List (List ℕ)

-- what stands for an array where there is none
abbrev pub no_array : Array
no_array = record { dims = []; strings = [] }

-- the code units of a well-formed string
abbrev pub string_units : List ℕ → List ℕ
string_units s = unwrap_or (units_of s) []

-- "lengths in code units"
abbrev pub unit_counts : List (List ℕ) → List ℕ
unit_counts ss = map (λ s. length (string_units s)) ss

-- the units of all strings, one after another
abbrev pub all_units : List (List ℕ) → List ℕ
all_units ss = flat_map string_units ss

-- "lengths in code units, then units four to a word"
unfoldable pub string_words : List (List ℕ) → List ℕ
string_words ss = unit_counts ss ++ packed (all_units ss)

-- "1, number of dimensions, dimensions", and the strings
unfoldable pub payload : Array → List ℕ
payload a = 1 ∷ length a.dims ∷ (a.dims ++ string_words a.strings)

-- a product that is n
abbrev pub is_product : ℕ → Reply ℕ ℕ → Bool
is_product n (Ok p) = eqb p n
is_product n (Err i) = false

-- "Does the product of the dimensions stay below 2^64 at each step and equal the number of strings?"
unfoldable pub is_shape : List ℕ → ℕ → Bool
is_shape dims n = is_product n (product_of dims)

-- 31 for n strings
abbrev pub check_shape : List ℕ → ℕ → Result (Unit {0})
check_shape dims n = check 31 (is_shape dims n) n

-- the array of dimensions and of strings cut from a text, with 30, 31 and 32's "at most 2,097,152 words"
unfoldable pub array_of : List ℕ → List ℕ → List ℕ → Result Array
array_of dims text spans = do
  strings ← check_strings text spans
  check_shape dims (length strings)
  check 32 (leb (length (payload (record { dims = dims; strings = strings }))) 2097152) (length (payload (record { dims = dims; strings = strings })))
  ok (record { dims = dims; strings = strings })

-- an array that writing accepts: 30, 31 and 32's words hold of some dimensions, text and spans that it is made of
pub record Accepted (a : Array) : Type 0 where
  pub dims : List ℕ
  pub text : List ℕ
  pub spans : List ℕ
  pub is : array_of dims text spans ≡ ok a

-- writing a payload: 30, 31, 32, 34, for an output of `room` words
unfoldable pub encode_payload : List ℕ → List ℕ → List ℕ → ℕ → Result (List ℕ)
encode_payload dims text spans room = do
  a ← array_of dims text spans
  check_output (length (payload a)) room
  ok (payload a)

-- "payloads end to end from word 0"
unfoldable pub payloads : List Array → List ℕ
payloads xs = joined (map payload xs)

-- "the directory their pairs": offset and length of each payload, where the first begins at word o
abbrev pub payload_spans : ℕ → List Array → List ℕ
payload_spans o xs = spans_from o (map payload xs)
