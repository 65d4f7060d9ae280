-- What the stages of the object listing promise each other.
-- Assumes nothing.
use Rattle.std.specs.Prelude.{ℕ, ◌+◌, ◌/◌, ◌≤◌, ◌<◌, ◌*◌, ◌-◌, ◌≡◌, Bool, List, [], ◌∷◌, get_or, slice_set, length, IfOk, Result as Reply}
use Rattle.text.specs.Replies.{outcome}
use Rattle.text.specs.Result.{Result, ok, ◌>>◌, values_of, map_result}
use Rattle.text.specs.declared.error.MatError.{MatError}
use Rattle.reader.specs.Blocks.{block_at}
use Rattle.reader.specs.Objects.{objects_from, object_rows, region_start, region_blocks, no_row}
use Rattle.reader.specs.Queries.{into_output}
use Rattle.reader.specs.Stages.Objects.{number_of}
use Rattle.reader.specs.declared.file_wrapper.FileWrapper.{FileWrapper}
use Rattle.reader.specs.declared.file_wrapper.Metadata.{Metadata}
use Rattle.reader.specs.declared.listing.Cursor.{Cursor}
use Rattle.reader.specs.declared.listing.Listing.{Listing}
use Rattle.reader.specs.declared.plan.Plan.{Plan}
use Rattle.reader.specs.declared.listing.Step.{Step}
use Rattle.reader.specs.declared.objects.BlockId.{BlockId}
use Rattle.reader.specs.declared.objects.ObjectRow.{ObjectRow}
use Rattle.reader.specs.declared.objects.Region.{Region}
use Rattle.reader.specs.declared.objects.Region.TheVariants.{Saved, Normal}

-- ---- the checks

-- check 10 for n objects from id on
abbrev pub check_objects : List ℕ → FileWrapper → ℕ → ℕ → Result (Unit {0})
check_objects b w id n = objects_from b w id n >> ok tt

-- whether all of them hold, and then whether block ids fall, of which nothing is promised
abbrev pub ChecksObjects : List ℕ → FileWrapper → Reply Bool MatError → Type 0
ChecksObjects b w x = map_result (λ _. tt) (outcome x) ≡ check_objects b w 1 (w.records - 1)

-- the rows of a blob whose listing is accepted
abbrev pub all_objects : List ℕ → List ObjectRow
all_objects b = values_of (object_rows b)

-- ---- the index of blocks

-- the entry of block 0 of region g
abbrev pub first_entry : Plan → Region → ℕ
first_entry p Saved = 0
first_entry p Normal = p.normalobj

-- entry j of region g
unfoldable pub index_entry : List ℕ → Plan → Region → ℕ → ℕ
index_entry index p g j = get_or index (first_entry p g + j) 0

-- it is the byte of block j * stride
abbrev pub IsEntry : List ℕ → Plan → Region → ℕ → Type 0
IsEntry index p g j = index_entry index p g j ≡ block_at 12 p.metadata.blob.now (region_start p.metadata.w (number_of g)) (j * p.stride)

-- the entries of region g are filled, those before them kept
pub record Fills (p : Plan) (g : Region) (index index' : List ℕ) : Type 0 where
  pub size : length index' ≡ 8192
  pub kept : (k : ℕ) → k < first_entry p g → get_or index' k 0 ≡ get_or index k 0
  pub entries : (j : ℕ) → j * p.stride < region_blocks p.metadata.w (number_of g) → IsEntry index' p g j

-- every entry of both regions is filled
pub record Indexes (p : Plan) (index : List ℕ) : Type 0 where
  pub size : length index ≡ 8192
  pub entries : (g : Region) (j : ℕ) → j * p.stride < region_blocks p.metadata.w (number_of g) → IsEntry index p g j

-- ---- cursors

-- a cursor stands at the block that it names, of the region that begins at start
pub record IsCursor (b : List ℕ) (start : ℕ) (c : Cursor) : Type 0 where
  pub is : c.at ≡ block_at 12 b start c.block

-- the cursor at block k of the region that begins at start
abbrev pub cursor_at : List ℕ → ℕ → ℕ → Cursor
cursor_at b start k = record { block = k; at = block_at 12 b start k }

-- the same from a cursor that is not past the block
abbrev pub cursor_from : List ℕ → Cursor → ℕ → Cursor
cursor_from b c k = record { block = k; at = block_at 12 b c.at (k - c.block) }

-- the cursor of a region
abbrev pub cursor_of : List Cursor → Region → Cursor
cursor_of cs g = get_or cs (number_of g) (record { block = 0; at = 0 })

-- the cursors with that of a region moved to c
abbrev pub with_cursor : List Cursor → Region → Cursor → List Cursor
with_cursor cs g c = slice_set cs (number_of g) c

-- before any block is looked for, each cursor stands at block 0 of its region
abbrev pub first_cursors : FileWrapper → List Cursor
first_cursors w = record { block = 0; at = get_or w.offsets 1 0 } ∷ record { block = 0; at = get_or w.offsets 3 0 } ∷ []

-- each cursor stands at the block of its region that it names
pub record AreCursors (m : Metadata) (cs : List Cursor) : Type 0 where
  pub size : length cs ≡ 2
  pub are : (g : Region) → IsCursor m.blob.now (region_start m.w (number_of g)) (cursor_of cs g)

-- the entry before a block of its region lies in the index
abbrev pub EntryInside : Plan → BlockId → Type 0
EntryInside p k = first_entry p k.region + k.id / p.stride < 8192

-- a cursor not past the block, that of the region or of its entry: in whatever blob both are right, it is too
pub record Nearest (index : List ℕ) (p : Plan) (cs : List Cursor) (k : BlockId) (c : Cursor) : Type 0 where
  pub behind : c.block ≤ k.id
  pub is : (b : List ℕ) (start : ℕ) → IsCursor b start (cursor_of cs k.region)
      → index_entry index p k.region (k.id / p.stride) ≡ block_at 12 b start (k.id / p.stride * p.stride) → IsCursor b start c

-- the blob's region has this block, and the cursors are the blob's
pub record ToBlock (m : Metadata) (cs : List Cursor) (k : BlockId) : Type 0 where
  pub cursors : AreCursors m cs
  pub below : k.id < region_blocks m.w (number_of k.region)

-- ---- the listing

-- the objects of an opened blob pass check 10
abbrev pub Listable : Metadata → Type 0
Listable m = objects_from m.blob.now m.w 1 (m.w.records - 1) ≡ ok (all_objects m.blob.now)

-- what a listing says of the blob
pub record IsListing (b : List ℕ) (x : Listing) : Type 0 where
  pub blob : x.plan.metadata.blob.now ≡ b
  pub listable : Listable x.plan.metadata
  pub count : x.count ≡ x.plan.metadata.w.records - 1

-- the listing of a blob for so many rows
pub record ListingFor (b : List ℕ) (room : ℕ) (x : Reply Listing MatError) : Type 0 where
  pub reply : map_result (λ (l : Listing). l.count) (outcome x) ≡ map_result length (into_output (object_rows b) room)
  pub is : IfOk x (IsListing b)

-- object i is one of the blob's, and the cursors are the blob's
pub record ToNext (m : Metadata) (cs : List Cursor) (i : ℕ) : Type 0 where
  pub listable : Listable m
  pub cursors : AreCursors m cs
  pub below : i + 1 < m.w.records

-- object i, and cursors that are the blob's
pub record NextObject (m : Metadata) (i : ℕ) (s : Step) : Type 0 where
  pub cursors : AreCursors m s.cursors
  pub row : s.row ≡ get_or (all_objects m.blob.now) i no_row
