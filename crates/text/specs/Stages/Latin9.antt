-- What the private stages of export and import promise each other.
-- Assumes nothing.
use Rattle.std.specs.Prelude.{ℕ, ◌<◌, ◌+◌, ◌≤◌, ◌≡◌, cond, List, ltb, length, get_or}
use Rattle.text.specs.Latin9.{code_point, latin9_bytes}
use Rattle.text.specs.Result.{ok, values_of}
use Rattle.text.specs.Utf8.{value_at, step_at}
use Rattle.text.specs.declared.utf8.Step.TheVariants.{Scalar}

-- the table that is lent has the code point of each byte
pub record IsTable (points : List ℕ) : Type 0 where
  pub size : length points ≡ 256
  pub point : (b : ℕ) → b < 256 → get_or points b 0 ≡ code_point b

-- the bytes of a character by its first, which is not ASCII, where there are not four
abbrev pub size_by : ℕ → ℕ
size_by lead = cond (ltb lead 0xE0) 2 3

-- a character of n bytes, two at least, stands at i
pub record CharacterAt (s : List ℕ) (i n : ℕ) : Type 0 where
  pub step : step_at s i ≡ Scalar (value_at s i n) (i + n)
  pub least : 2 ≤ n
  pub inside : i + n ≤ length s

-- every character of a text has a byte, and they fit a buffer
pub record BytesFit (text out : List ℕ) : Type 0 where
  pub are_bytes : latin9_bytes text ≡ ok (values_of (latin9_bytes text))
  pub fits : length (values_of (latin9_bytes text)) ≤ length out
