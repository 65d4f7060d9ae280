-- What the private stages of decoding UTF-16 promise each other.
-- Assumes nothing.
use Rattle.std.specs.Prelude.{ℕ, ◌+◌, ◌≤◌, ◌≡◌, List, ltb, length, get_or}
use Rattle.std.specs.Prelude.{Option, Some}
use Rattle.text.specs.Utf16.{unit_step, text_of, the_text}
use Rattle.text.specs.declared.utf16.Scalar.{Scalar}

-- the same at index i of a text
abbrev pub unit_step_at : List ℕ → ℕ → Option Scalar
unit_step_at us i = unit_step (get_or us i 0) (get_or us (i + 1) 0) (ltb (i + 1) (length us))

-- code units have a text, and it fits a buffer
pub record TextFits (us out : List ℕ) : Type 0 where
  pub is_text_lem : text_of us ≡ Some (the_text us)
  pub fits : length (the_text us) ≤ length out
