-- ISO 8859-15, also called Latin-9: its table of code points, and document 02's export and import of labels.
-- Assumes nothing.
use Rattle.std.specs.Prelude.{ℕ, zero, suc, cond, List, [], ◌∷◌, map, eqb, length}
use Rattle.std.specs.Prelude.{Option, Some, None}
use Rattle.text.specs.Result.{Result, ok, or_error, check_output, ◌>>◌, ◌>>=◌}
use Rattle.text.specs.Unicode.{utf8s}
use Rattle.text.specs.Utf8.{scalars8}

-- a byte value whose code point is another number
pub record Exception : Type 0 where
  pub byte : ℕ
  pub point : ℕ

-- one by its two numbers
abbrev except : ℕ → ℕ → Exception
except b v = record { byte = b; point = v }

-- "except A4 20AC, A6 0160, A8 0161, B4 017D, B8 017E, BC 0152, BD 0153, BE 0178 (hexadecimal)"
unfoldable pub exceptions : List Exception
exceptions =
    except 0xA4 0x20AC
    ∷ except 0xA6 0x0160
    ∷ except 0xA8 0x0161
    ∷ except 0xB4 0x017D
    ∷ except 0xB8 0x017E
    ∷ except 0xBC 0x0152
    ∷ except 0xBD 0x0153
    ∷ except 0xBE 0x0178
    ∷ []

-- the code point that is listed for b, b itself where none is
unfoldable pub point_in : List Exception → ℕ → ℕ
point_in [] b = b
point_in (e ∷ es) b = cond (eqb b e.byte) e.point (point_in es b)

-- "the code point for each of the 256 byte values: equal to the byte, except .."
unfoldable pub code_point : ℕ → ℕ
code_point b = point_in exceptions b

-- the first of n byte values from b on whose code point is v
unfoldable pub byte_from : ℕ → ℕ → ℕ → Option ℕ
byte_from v b zero = None
byte_from v b (suc n) = cond (eqb (code_point b) v) (Some b) (byte_from v (suc b) n)

-- a character's byte: the one of the 256 that has its code point, none where none has
unfoldable pub byte_of : ℕ → Option ℕ
byte_of v = byte_from v 0 256

-- one byte a character, for characters of which the first has index i. 36: "has each character a byte? Place: index of the first character
-- that has none"
unfoldable pub bytes_from : ℕ → List ℕ → Result (List ℕ)
bytes_from i [] = ok []
bytes_from i (v ∷ vs) = do
  b ← or_error (record { number = 36; place = i }) (byte_of v)
  bs ← bytes_from (suc i) vs
  ok (b ∷ bs)

-- the bytes of a text: "30 with place 0, then 36"
unfoldable pub latin9_bytes : List ℕ → Result (List ℕ)
latin9_bytes text = do
  characters ← or_error (record { number = 30; place = 0 }) (scalars8 text)
  bytes_from 0 characters

-- export: "then 34", for an output of `room` bytes
unfoldable pub export_latin9 : List ℕ → ℕ → Result (List ℕ)
export_latin9 text room = do
  bytes ← latin9_bytes text
  check_output (length bytes) room
  ok bytes

-- the UTF-8 text of bytes, a character each
abbrev pub latin9_text : List ℕ → List ℕ
latin9_text bytes = utf8s (map code_point bytes)

-- import: "Importing puts 34 only"
unfoldable pub import_latin9 : List ℕ → ℕ → Result (List ℕ)
import_latin9 bytes room = do
  check_output (length (latin9_text bytes)) room
  ok (latin9_text bytes)
