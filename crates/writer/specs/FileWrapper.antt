-- The metadata blob built for n string objects, region by region.
-- Assumes nothing.
use Rattle.std.specs.Prelude.{ℕ, zero, suc, ◌+◌, ◌/◌, ◌%◌, Bool, ◌&&◌, leb, length, replicate}
use mathlib.Core.List.{List, [], ◌∷◌, ◌++◌, flat_map}
use Rattle.text.specs.Buffer.{same}
use Rattle.text.specs.Result.{Result, ok, check, check_output, ◌>>◌}

-- "Integers are little-endian": a 32-bit word
abbrev pub u32_bytes : ℕ → List ℕ
u32_bytes v = (v % 256) ∷ (v / 256 % 256) ∷ (v / 65536 % 256) ∷ (v / 16777216 % 256) ∷ []

-- words one after another
unfoldable pub u32s : List ℕ → List ℕ
u32s vs = flat_map u32_bytes vs

-- any, string, each with a zero byte, and zeros to a multiple of 8
abbrev pub name_heap : List ℕ
name_heap = 0x61 ∷ 0x6E ∷ 0x79 ∷ 0 ∷ 0x73 ∷ 0x74 ∷ 0x72 ∷ 0x69 ∷ 0x6E ∷ 0x67 ∷ 0 ∷ 0 ∷ 0 ∷ 0 ∷ 0 ∷ 0 ∷ []

-- class 0, and class 1: no namespace, name 2
abbrev pub class_entries : List ℕ
class_entries = u32s (0 ∷ 0 ∷ 0 ∷ 0 ∷ 0 ∷ 2 ∷ 0 ∷ 0 ∷ [])

-- the regions that have an entry for each object
pub data Region : Type 0 where
  SavedBlocks : Region
  Objects : Region
  Dependents : Region

-- the words of object i's entry, from 0: its saved block, one triple (name 1, heap, i); its record, class 1, saved id i + 1, dependency id
-- i + 1; its empty block of dependents
abbrev pub entry : Region → ℕ → List ℕ
entry SavedBlocks i = 1 ∷ 1 ∷ 1 ∷ i ∷ []
entry Objects i = 1 ∷ 0 ∷ 0 ∷ (i + 1) ∷ 0 ∷ (i + 1) ∷ []
entry Dependents i = 0 ∷ 0 ∷ []

-- what stands before the objects' entries: block 0, record 0, block 0
abbrev pub zero_entry : Region → List ℕ
zero_entry SavedBlocks = 0 ∷ 0 ∷ []
zero_entry Objects = 0 ∷ 0 ∷ 0 ∷ 0 ∷ 0 ∷ 0 ∷ []
zero_entry Dependents = 0 ∷ 0 ∷ []

-- the entries of n objects from object i on
unfoldable pub entries_from : Region → ℕ → ℕ → List ℕ
entries_from r i zero = []
entries_from r i (suc n) = u32s (entry r i) ++ entries_from r (suc i) n

-- a region for n objects: what stands before them, and their entries
unfoldable pub region : Region → ℕ → List ℕ
region r n = u32s (zero_entry r) ++ entries_from r 0 n

-- the seven regions: classes, saved blocks, objects, normal blocks, dependents, an empty one, and eight zeros
unfoldable pub regions : ℕ → List (List ℕ)
regions n =
    class_entries
    ∷ region SavedBlocks n
    ∷ region Objects n
    ∷ u32s (0 ∷ 0 ∷ [])
    ∷ region Dependents n
    ∷ []
    ∷ replicate 8 0
    ∷ []

-- the offsets of the ends of regions that begin at o
unfoldable pub offsets_from : ℕ → List (List ℕ) → List ℕ
offsets_from o [] = o ∷ []
offsets_from o (r ∷ rs) = o ∷ offsets_from (o + length r) rs

-- version 4, the number of names, "at 8 to 39 eight offsets", the name heap, and the regions
unfoldable pub file_wrapper : ℕ → List ℕ
file_wrapper n = u32s (4 ∷ 2 ∷ offsets_from (40 + length name_heap) (regions n)) ++ (name_heap ++ flat_map (λ r. r) (regions n))

-- whether bytes are the blob for n objects, of which there are at most 349,522
unfoldable pub is_file_wrapper : ℕ → List ℕ → Bool
is_file_wrapper n b = leb n 349522 && same b (file_wrapper n)

-- "Building metadata: 32, 34", for an output of `room` bytes
unfoldable pub build_metadata : ℕ → ℕ → Result (List ℕ)
build_metadata n room = do
  check 32 (leb n 349522) n
  check_output (length (file_wrapper n)) room
  ok (file_wrapper n)
