-- What the stages of reading one object promise each other.
-- Assumes nothing.
use Rattle.std.specs.Prelude.{ℕ, ◌+◌, ◌*◌, ◌≤◌, ◌<◌, ◌≡◌, cond, eqb, List, length, IfOk, Result as Reply}
use Rattle.text.specs.Replies.{outcome}
use Rattle.text.specs.Result.{map_result}
use Rattle.text.specs.declared.error.MatError.{MatError}
use Rattle.reader.specs.Objects.{block_id_of, block_start, record_row}
use Rattle.reader.specs.declared.file_wrapper.FileWrapper.{FileWrapper}
use Rattle.reader.specs.declared.objects.BlockId.{BlockId}
use Rattle.reader.specs.declared.objects.LocatedObject.{LocatedObject}
use Rattle.reader.specs.declared.objects.ObjectRow.{ObjectRow}
use Rattle.reader.specs.declared.objects.Region.{Region}
use Rattle.reader.specs.declared.objects.Region.TheVariants.{Saved, Normal}
use Rattle.reader.specs.declared.records.ObjectRecord.{ObjectRecord}

-- an opened blob has a record of this id
pub record HasObject (w : FileWrapper) (id : ℕ) : Type 0 where
  pub below : id < w.records

-- the number of a region: "0 saved, 1 normal"
abbrev pub number_of : Region → ℕ
number_of Saved = 0
number_of Normal = 1

-- where an object's properties are: the region, and the id of the block in it
abbrev pub block_of : ObjectRecord → BlockId
block_of r = record { region = cond (eqb r.saveobj_id 0) Normal Saved; id = block_id_of r }

-- the row of the object listing for a record, its block and the number of its properties
abbrev pub row_from : ObjectRecord → BlockId → ℕ → ObjectRow
row_from r k n = record { class_id = r.class_id; region = number_of k.region; block_id = k.id; property_count = n }

-- the block of an object's record begins at this byte and is whole
pub record IsBlock (b : List ℕ) (w : FileWrapper) (r : ObjectRecord) (n at : ℕ) : Type 0 where
  pub is : at ≡ block_start b w r
  pub inside : at + 4 + 12 * n ≤ length b

-- what reading an object by its record replies, and where its block stands
pub record ReadsObject (b : List ℕ) (w : FileWrapper) (r : ObjectRecord) (x : Reply LocatedObject MatError) : Type 0 where
  pub reply : map_result (λ (o : LocatedObject). o.row) (outcome x) ≡ record_row b w r
  pub stands : IfOk x (λ (o : LocatedObject). IsBlock b w r o.row.property_count o.at)
