-- What the stages that read and write the text of code units in words promise each other.
-- Assumes nothing.
use Rattle.std.specs.Prelude.{ℕ, ◌+◌, ◌*◌, ◌/◌, ◌%◌, ◌^◌, ◌-◌, ◌≤◌, ◌<◌, ◌≡◌, Bool, ◌&&◌, List, eqb, length, get_or}
use Rattle.std.specs.Prelude.{Some}
use Rattle.text.specs.Utf16.{text_of, the_text}
use Rattle.reader.specs.Units.{units_in}

-- the n units from word first on fill the words to their end; "Writing pads the last word with zeros"
unfoldable pub is_packed : List ℕ → ℕ → ℕ → Bool
is_packed words first n = eqb (length words) (first + (n + 3) / 4) && eqb (get_or words (first + n / 4) 0 / 2 ^ (16 * (n % 4))) 0

-- those units are there
pub record UnitsInside (words : List ℕ) (first k n : ℕ) : Type 0 where
  pub there : k + n ≤ 4 * (length words - first)
  pub most : length words ≤ 2097152

-- they have a text, and there is room for it
pub record UnitsFit (words : List ℕ) (first k n room : ℕ) : Type 0 where
  pub inside : UnitsInside words first k n
  pub is_text_lem : text_of (units_in words first k n) ≡ Some (the_text (units_in words first k n))
  pub fits : length (the_text (units_in words first k n)) ≤ room

-- a unit whose text has two bytes, and there is room for them
pub record TwoFit (unit room : ℕ) : Type 0 where
  pub least : 0x80 ≤ unit
  pub most : unit < 0x800
  pub fits : 2 ≤ room

-- the same for three
pub record ThreeFit (unit room : ℕ) : Type 0 where
  pub least : 0x800 ≤ unit
  pub fits : 3 ≤ room

-- a surrogate pair, and there is room for its four bytes
pub record PairFits (high low room : ℕ) : Type 0 where
  pub high_from : 0xD800 ≤ high
  pub high_to : high ≤ 0xDBFF
  pub low_from : 0xDC00 ≤ low
  pub low_to : low ≤ 0xDFFF
  pub fits : 4 ≤ room
