-- What the stages of decoding a payload promise each other.
-- Assumes nothing.
use Rattle.std.specs.Prelude.{ℕ, ◌+◌, ◌-◌, ◌*◌, ◌≤◌, ◌<◌, ◌≡◌, List, length}
use Rattle.std.specs.Prelude.{Some}
use Rattle.text.specs.Buffer.{put}
use Rattle.text.specs.Result.{Result, ok, ◌>>◌, ◌>>=◌, values_of}
use Rattle.text.specs.Utf16.{text_of, the_text}
use Rattle.writer.specs.Spans.{joined, spans_from}
use Rattle.reader.specs.Saveobj.{units_before, check_header, check_unit_count, stored_units, stored_strings}
use Rattle.reader.specs.declared.saveobj.Position.{Position}

-- ---- stages

-- the index of the first length, the number of strings and that of their code units
pub record Layout : Type 0 where
  pub base : ℕ
  pub strings : ℕ
  pub units : ℕ

-- 27 and 28, and the code units of n strings
unfoldable pub checked_units : List ℕ → ℕ → ℕ → Result ℕ
checked_units payload base n = do
  check_unit_count payload base n
  ok (units_before payload base n)

-- 22 to 28
unfoldable pub check_layout : List ℕ → Result Layout
check_layout payload = do
  header ← check_header payload
  check_unit_count payload header.base header.strings
  ok (record { base = header.base; strings = header.strings; units = units_before payload header.base header.strings })

-- the payload has the lengths of n strings from word base on
pub record LengthsInside (payload : List ℕ) (base n : ℕ) : Type 0 where
  pub there : base + n ≤ length payload

-- 22 to 28 hold of a payload of n strings whose lengths begin at word base
pub record UnitsChecked (payload : List ℕ) (base n : ℕ) : Type 0 where
  pub lengths : base + n ≤ length payload
  pub units : units_before payload base n ≤ 4 * (length payload - (base + n))
  pub most : length payload ≤ 2097152

-- 29 holds too, and there is room for the strings from byte `byte` on, and for their spans from span `index` on
pub record StringsFit (payload : List ℕ) (base n byte text_room index span_room : ℕ) : Type 0 where
  pub checked : UnitsChecked payload base n
  pub paired : (i : ℕ) → i < n → text_of (stored_units payload base n i) ≡ Some (the_text (stored_units payload base n i))
  pub text : byte + length (joined (stored_strings payload base n 0 n)) ≤ text_room
  pub spans : 2 * (index + n) ≤ span_room

-- the start of the text and of the spans
abbrev pub origin : Position
origin = record { byte = 0; string = 0 }

-- a result has strings, and there is room for them and their spans at a position
pub record FitsAt (m : Result (List (List ℕ))) (text_room span_room : ℕ) (at : Position) : Type 0 where
  pub passed : m ≡ ok (values_of m)
  pub text : at.byte + length (joined (values_of m)) ≤ text_room
  pub spans : 2 * (at.string + length (values_of m)) ≤ span_room

-- the strings of a result are written at a position, end to end, and their spans; next is the position after them
pub record WritesAt (m : Result (List (List ℕ))) (at : Position) (text spans : List ℕ) (next : Position) (text' spans' : List ℕ) : Type 0 where
  pub strings : next.string ≡ at.string + length (values_of m)
  pub end : next.byte ≡ at.byte + length (joined (values_of m))
  pub text_after : text' ≡ put text at.byte (joined (values_of m))
  pub spans_after : spans' ≡ put spans (2 * at.string) (spans_from at.byte (values_of m))
