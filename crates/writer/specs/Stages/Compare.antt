-- What the private stages of comparing a blob promise each other.
-- Assumes nothing.
use Rattle.std.specs.Prelude.{ℕ, Bool, List, length, take, drop}
use Rattle.text.specs.Buffer.{same}

-- whether w stands in b from index i on
unfoldable pub stands_at : List ℕ → ℕ → List ℕ → Bool
stands_at b i w = same (take (length w) (drop i b)) w
