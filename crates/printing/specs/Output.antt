-- What an output buffer holds.
-- Assumes nothing.
use Rattle.std.specs.Prelude.{ℕ, ◌-◌, cond, List, leb, length}
use Rattle.text.specs.Buffer.{Puts}

-- where the next text goes: after the bytes in use, or at the start where that leaves too little room and is written first
unfoldable pub start_of : List ℕ → ℕ → ℕ
start_of out used = cond (leb 4096 (length out - used)) used 0

-- what a function that adds a text leaves: the text stands after what was in use, or alone where that was written, and the rest is kept
pub record Adds (w out : List ℕ) (used : ℕ) (out' : List ℕ) (used' : ℕ) : Type 0 where
  pub puts : Puts out (start_of out used) w used' out'
