-- The cell store: the directory of its cells, and a cell by its entry.
-- Assumes nothing.
use Rattle.std.specs.Prelude.{ℕ, zero, suc, ◌+◌, ◌-◌, ◌/◌, ◌%◌, Bool, ◌&&◌, List, leb, ltb, eqb, length, get_or}
use Rattle.text.specs.Result.{Result, ok, check, check_each, ◌>>◌}
use Rattle.writer.specs.Spans.{offset_at, length_at, end_at, string_at}

-- the end of the span before span i
abbrev pub end_before : List ℕ → ℕ → ℕ
end_before spans zero = 0
end_before spans (suc i) = end_at spans i

-- len words from offset on: "each at or after the end of the one before", "ending within the buffer" of so many words
unfoldable pub lies_in : ℕ → ℕ → ℕ → ℕ → Bool
lies_in end offset len words = leb end offset && leb (offset + len) words

-- 13 for pair i
abbrev pub is_cell : List ℕ → ℕ → ℕ → Bool
is_cell directory words i = lies_in (end_before directory i) (offset_at directory i) (length_at directory i) words

-- the cells that a directory names, "one pair for each"
abbrev pub cell_count : List ℕ → ℕ
cell_count directory = length directory / 2

-- 13 on a road: "the number of values if odd, above 699,044 or not matched by the kinds; else the first bad pair"
unfoldable pub check_directory : List ℕ → List ℕ → ℕ → Result (Unit {0})
check_directory directory kinds words = do
  check 13 (eqb (length directory % 2) 0) (length directory)
  check 13 (leb (length directory) 699044) (length directory)
  check 13 (eqb (length kinds) (cell_count directory)) (length directory)
  check_each 13 (is_cell directory words) 0 (cell_count directory)

-- the words of entry j: 14 "Does the cell exist?" and 15 "Is its kind 0?", both with this place
unfoldable pub cell_at : List ℕ → List ℕ → List ℕ → ℕ → ℕ → Result (List ℕ)
cell_at directory kinds words j place = do
  check 14 (ltb j (cell_count directory)) place
  check 15 (eqb (get_or kinds j 0) 0) place
  ok (string_at words directory j)

-- "each id in the word list leads to entry id − 1; id 0 has no cell and gives 14"
unfoldable pub cell_of : List ℕ → List ℕ → List ℕ → ℕ → Result (List ℕ)
cell_of directory kinds words id = do
  check 14 (leb 1 id) id
  cell_at directory kinds words (id - 1) id
