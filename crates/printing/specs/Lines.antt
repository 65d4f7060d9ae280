-- The lines of a listing. The words in quotes are document 01's.
-- Assumes nothing.
use Rattle.std.specs.Prelude.{ℕ, zero, suc, ◌+◌, ◌-◌, ◌/◌, ◌%◌, ◌≤◌, ◌≡◌, Bool, cond, not, ◌&&◌, ltb, eqb, length, Result as Reply}
use mathlib.Core.List.{List, [], ◌∷◌, ◌++◌, flat_map}
use Rattle.text.specs.Replies.{Writes}
use Rattle.text.specs.Result.{ok}
use Rattle.text.specs.Unicode.{within}
use Rattle.text.specs.declared.error.MatError.{MatError}
use Rattle.reader.specs.Queries.{into_output}
use Rattle.printing.specs.declared.lines.LinePart.{LinePart}
use Rattle.printing.specs.declared.lines.LinePart.TheVariants as part

-- whether a byte is none of the "bytes outside 33 to 126, the quote and the backslash"
abbrev pub is_plain : ℕ → Bool
is_plain b = within 33 126 b && (not (eqb b 0x22) && not (eqb b 0x5C))

-- one of the "small hexadecimal digits": 0 to 9, a to f
abbrev pub hex_digit : ℕ → ℕ
hex_digit d = cond (ltb d 10) (0x30 + d) (0x61 + (d - 10))

-- a byte as it is, or "a backslash and two small hexadecimal digits"
unfoldable pub escape : ℕ → List ℕ
escape b = cond (is_plain b) (b ∷ []) (0x5C ∷ hex_digit (b / 16) ∷ hex_digit (b % 16) ∷ [])

-- what stands between the quotes where "Names stand in quotes"
unfoldable pub escaped : List ℕ → List ℕ
escaped name = flat_map escape name

-- the digits of a number that has at most k + 1 of them, most significant first
unfoldable pub digits : ℕ → ℕ → List ℕ
digits zero n = (0x30 + n) ∷ []
digits (suc k) n = cond (ltb n 10) ((0x30 + n) ∷ []) (digits k (n / 10) ++ (0x30 + n % 10) ∷ [])

-- a number as "names 2", "object 1" and "heap 0" show it; 20 digits hold any number of 64 bits
unfoldable pub decimal : ℕ → List ℕ
decimal n = digits 19 n

-- what a function that counts the digits of n returns
pub record CountsDigits (n r : ℕ) : Type 0 where
  pub is : r ≡ length (decimal n)
  pub few : r ≤ 20

-- a number between two words
abbrev pub numbered : List ℕ → ℕ → List ℕ → List ℕ
numbered start n end = start ++ decimal n ++ end

-- the parts of the lines that the program "prints"
abbrev pub line_text : LinePart → List ℕ
-- "names 2"
line_text (part.Names n) = numbered (0x6E ∷ 0x61 ∷ 0x6D ∷ 0x65 ∷ 0x73 ∷ 0x20 ∷ []) n (0x0A ∷ [])
-- "refused N"
line_text (part.Refused n) = numbered (0x72 ∷ 0x65 ∷ 0x66 ∷ 0x75 ∷ 0x73 ∷ 0x65 ∷ 0x64 ∷ 0x20 ∷ []) n (0x0A ∷ [])
-- "input too long"
line_text part.TooLong = 0x69 ∷ 0x6E ∷ 0x70 ∷ 0x75 ∷ 0x74 ∷ 0x20 ∷ 0x74 ∷ 0x6F ∷ 0x6F ∷ 0x20 ∷ 0x6C ∷ 0x6F ∷ 0x6E ∷ 0x67 ∷ 0x0A ∷ []
-- "object 1 "
line_text (part.Object id) = numbered (0x6F ∷ 0x62 ∷ 0x6A ∷ 0x65 ∷ 0x63 ∷ 0x74 ∷ 0x20 ∷ []) id (0x20 ∷ [])
-- "prop "
line_text part.Property = 0x70 ∷ 0x72 ∷ 0x6F ∷ 0x70 ∷ 0x20 ∷ []
-- the quote
line_text part.Quote = 0x22 ∷ []
-- " heap 0"
line_text (part.Heap v) = numbered (0x20 ∷ 0x68 ∷ 0x65 ∷ 0x61 ∷ 0x70 ∷ 0x20 ∷ []) v (0x0A ∷ [])
-- " inline V"
line_text (part.Inline v) = numbered (0x20 ∷ 0x69 ∷ 0x6E ∷ 0x6C ∷ 0x69 ∷ 0x6E ∷ 0x65 ∷ 0x20 ∷ []) v (0x0A ∷ [])
-- " name "
line_text part.Name = 0x20 ∷ 0x6E ∷ 0x61 ∷ 0x6D ∷ 0x65 ∷ 0x20 ∷ []
-- the end of a line
line_text part.End = 0x0A ∷ []

-- a call that writes a text to the start of an output, or refuses with 34
abbrev pub WritesPart : List ℕ → List ℕ → Reply ℕ MatError → List ℕ → Type 0
WritesPart w out r out' = Writes (into_output (ok w)) out r out'
