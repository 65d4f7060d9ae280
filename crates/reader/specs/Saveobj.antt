-- Saveobj payloads: the strings that one holds, with checks 22 to 29, and what decoding one into output buffers comes to.
-- Assumes nothing.
use Rattle.std.specs.Prelude.{ℕ, zero, suc, ◌+◌, ◌-◌, ◌*◌, ◌^◌, Bool, cond, ◌&&◌, List, [], ◌∷◌, leb, ltb, eqb, length, get_or, take, drop}
use Rattle.text.specs.Buffer.{same}
use Rattle.text.specs.Product.{product_of, check_product}
use Rattle.text.specs.Result.{Result, ok, check, check_each, check_output, is_ok, values_of, ◌>>◌, ◌>>=◌}
use Rattle.text.specs.Unicode.{within}
use Rattle.text.specs.Utf16.{text_of, the_text}
use Rattle.writer.specs.Array as writer
use Rattle.writer.specs.Array.{Array}
use Rattle.writer.specs.Spans.{is_some, joined}
use Rattle.reader.specs.Units.{units_in}

-- "A payload is 1, number of dimensions, dimensions, lengths in code units, then units"
abbrev pub dim_count : List ℕ → ℕ
dim_count payload = get_or payload 1 0

-- the dimensions
abbrev pub stored_dims : List ℕ → List ℕ
stored_dims payload = take (dim_count payload) (drop 2 payload)

-- the code units of string i, where the lengths begin at word base; "Length 2^64 − 1 marks a missing string: empty, no units"
unfoldable pub unit_count : List ℕ → ℕ → ℕ → ℕ
unit_count payload base i = cond (eqb (get_or payload (base + i) 0) (2 ^ 64 - 1)) 0 (get_or payload (base + i) 0)

-- the code units of the strings before string i
unfoldable pub units_before : List ℕ → ℕ → ℕ → ℕ
units_before payload base zero = 0
units_before payload base (suc i) = units_before payload base i + unit_count payload base i

-- string i of n in UTF-16: the units begin after the lengths
abbrev pub stored_units : List ℕ → ℕ → ℕ → ℕ → List ℕ
stored_units payload base n i = units_in payload (base + n) (units_before payload base i) (unit_count payload base i)

-- the k strings from string i on in UTF-8
unfoldable pub stored_strings : List ℕ → ℕ → ℕ → ℕ → ℕ → List (List ℕ)
stored_strings payload base n i zero = []
stored_strings payload base n i (suc k) = the_text (stored_units payload base n i) ∷ stored_strings payload base n (suc i) k

-- the index of the first length, and the number of strings
pub record Header : Type 0 where
  pub base : ℕ
  pub strings : ℕ

-- 22 to 26: what stands before the lengths
unfoldable pub check_header : List ℕ → Result Header
check_header payload = do
  -- 22 "From 2 to 2,097,152 words?"
  check 22 (within 2 2097152 (length payload)) (length payload)
  -- 23 "Is word 0 equal to 1?"
  check 23 (eqb (get_or payload 0 0) 1) (get_or payload 0 0)
  -- 24 "Do the dimensions fit?"
  check 24 (leb (2 + dim_count payload) (length payload)) (dim_count payload)
  -- 25 "Product as in 20?"
  product ← check_product 25 (product_of (stored_dims payload))
  -- 26 "Do the lengths fit?"
  check 26 (leb (2 + dim_count payload + product) (length payload)) product
  ok (record { base = 2 + dim_count payload; strings = product })

-- 27 "Is their sum below 2^64?" for the first n lengths
unfoldable pub check_sum : List ℕ → ℕ → ℕ → Result ℕ
check_sum payload base n = do
  check_each 27 (λ i. ltb (units_before payload base (suc i)) (2 ^ 64)) 0 n
  ok (units_before payload base n)

-- 28 "Are there that many code units?"
unfoldable pub check_unit_count : List ℕ → ℕ → ℕ → Result (Unit {0})
check_unit_count payload base n = do
  sum ← check_sum payload base n
  check 28 (leb sum (4 * (length payload - (base + n)))) sum

-- 29 "Is every surrogate paired within its string?"
unfoldable pub check_pairing : List ℕ → ℕ → ℕ → Result (List (List ℕ))
check_pairing payload base n = do
  check_each 29 (λ i. is_some (text_of (stored_units payload base n i))) 0 n
  ok (stored_strings payload base n 0 n)

-- the strings of a payload: 22 to 29
unfoldable pub decode_payload : List ℕ → Result (List (List ℕ))
decode_payload payload = do
  header ← check_header payload
  check_unit_count payload header.base header.strings
  check_pairing payload header.base header.strings

-- the dimensions and the strings of a payload that decodes
abbrev pub decoded_array : List ℕ → Array
decoded_array payload = record { dims = stored_dims payload; strings = values_of (decode_payload payload) }

-- a payload in canonical form (01's written form): it passes 22–29, and is "exactly what writing gives for its own dimensions and strings"
unfoldable pub is_canonical_payload : List ℕ → Bool
is_canonical_payload payload = is_ok (decode_payload payload) && same (writer.payload (decoded_array payload)) payload

-- 34 for the bytes of strings, then for the values of their spans
abbrev pub check_outputs : ℕ → ℕ → ℕ → ℕ → Result (Unit {0})
check_outputs bytes strings text_room span_room = do
  check_output bytes text_room
  check_output (2 * strings) span_room

-- strings for outputs of these lengths
abbrev pub into_strings : Result (List (List ℕ)) → ℕ → ℕ → Result (List (List ℕ))
into_strings m text_room span_room = do
  strings ← m
  check_outputs (length (joined strings)) (length strings) text_room span_room
  ok strings
