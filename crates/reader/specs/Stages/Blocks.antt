-- What the stages that walk property blocks promise each other.
-- Assumes nothing.
use Rattle.std.specs.Prelude.{ℕ, ◌≤◌, List, length}
use Rattle.reader.specs.Blocks.{block_end, block_at}

-- blocks 0 to k of the region that begins at start are whole
pub record HasBlock (size : ℕ) (b : List ℕ) (start k : ℕ) : Type 0 where
  pub most : length b ≤ 16777216
  pub small : size ≤ 12
  pub inside : (j : ℕ) → j ≤ k → block_end size b (block_at size b start j) ≤ length b

-- the bytes from i up to e are a region of the blob, and entries are small enough for its sums
pub record IsRegion (b : List ℕ) (i e size : ℕ) : Type 0 where
  pub order : i ≤ e
  pub inside : e ≤ length b
  pub most : length b ≤ 16777216
  pub small : size ≤ 12
