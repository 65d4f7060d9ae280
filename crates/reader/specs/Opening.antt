-- Opening a blob: checks 1 to 7.
-- Assumes nothing.
use Rattle.std.specs.Prelude.{ℕ, ◌+◌, ◌*◌, ◌-◌, ◌/◌, Bool, cond, ◌||◌, List, [], ◌∷◌, leb, eqb, length}
use Rattle.text.specs.Result.{Result, ok, check, ◌>>◌, ◌>>=◌, check_each}
use Rattle.reader.specs.Blocks.{blocks}
use Rattle.reader.specs.Names.{pieces, heap_of}
use Rattle.reader.specs.Wire.{u32_at}
use Rattle.reader.specs.declared.file_wrapper.FileWrapper.{FileWrapper}

-- "at 4 the number of names"
abbrev pub declared_names : List ℕ → ℕ
declared_names b = u32_at b 4

-- "at 8 to 39 eight offsets"
abbrev pub offset : List ℕ → ℕ → ℕ
offset b k = u32_at b (8 + 4 * k)

-- the "eight region offsets" of 3, as opening answers them
abbrev pub offsets : List ℕ → List ℕ
offsets b =
    offset b 0 ∷ offset b 1 ∷ offset b 2 ∷ offset b 3 ∷ offset b 4 ∷ offset b 5 ∷ offset b 6 ∷ offset b 7 ∷ []

-- 3: offset k lies within the blob
abbrev pub is_within : List ℕ → ℕ → Bool
is_within b k = leb (offset b k) (length b)

-- 5: offset k is not below the one before it
abbrev pub is_ordered : List ℕ → ℕ → Bool
is_ordered b k = leb (offset b (k - 1)) (offset b k)

-- 6: the pieces that the name heap has
abbrev pub piece_count : List ℕ → ℕ
piece_count b = length (pieces (heap_of b (offset b 0)))

-- what opening gives: the declared names, the class entries and object records that are whole, the blocks of both regions, and the offsets
abbrev pub wrapper_of : List ℕ → ℕ → ℕ → FileWrapper
wrapper_of b saved normal = record {
  names = declared_names b;
  classes = (offset b 1 - offset b 0) / 16;
  records = (offset b 3 - offset b 2) / 24;
  saveobj_blocks = saved;
  normalobj_blocks = normal;
  offsets = offsets b;
}

-- 6 and 7
unfoldable pub check_regions : List ℕ → Result FileWrapper
check_regions b = do
  check 6 (leb (declared_names b) (piece_count b)) (piece_count b)
  saved ← blocks 12 b (offset b 1) (offset b 2)
  normal ← blocks 12 b (offset b 3) (offset b 4)
  ok (wrapper_of b saved normal)

-- 3 to 7, of a blob that has a header
unfoldable pub layout : List ℕ → Result FileWrapper
layout b = do
  check_each 3 (is_within b) 0 8
  check 4 (leb 40 (offset b 0)) 0
  check_each 5 (is_ordered b) 1 8
  check_regions b

-- "A blob of length 0 now opens: no names, no classes, no objects." (document 02, P2) Its blocks and offsets are free; they are 0.
abbrev pub empty_wrapper : FileWrapper
empty_wrapper = record {
  names = 0;
  classes = 0;
  records = 0;
  saveobj_blocks = 0;
  normalobj_blocks = 0;
  offsets = 0 ∷ 0 ∷ 0 ∷ 0 ∷ 0 ∷ 0 ∷ 0 ∷ 0 ∷ [];
}

-- "Opening a blob": 1; 2, which "reads: 0, or at least 40" (P2); then 3 to 7 unless the length is 0
unfoldable pub opened : List ℕ → Result FileWrapper
opened b = do
  check 1 (leb (length b) 16777216) (length b)
  check 2 (eqb (length b) 0 || leb 40 (length b)) (length b)
  cond (eqb (length b) 0) (ok empty_wrapper) (layout b)
