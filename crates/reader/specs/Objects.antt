-- Objects and their properties, each query as its checks in sequence.
-- Assumes nothing.
use Rattle.std.specs.Option.{option_map}
use Rattle.std.specs.Prelude.{ℕ, zero, suc, ◌+◌, ◌-◌, Bool, cond, ◌||◌, List, [], ◌∷◌, map, leb, ltb, eqb, get_or}
use Rattle.std.specs.Prelude.{Option, Some, None}
use Rattle.text.specs.Buffer.{same}
use Rattle.text.specs.Result.{Result, ok, check, ◌>>◌, ◌>>=◌}
use Rattle.reader.specs.Blocks.{block_at}
use Rattle.reader.specs.Opening.{opened}
use Rattle.reader.specs.Queries.{check_name, check_object, object_record, own_bytes, shown}
use Rattle.reader.specs.Wire.{u32_at, triple_at}
use Rattle.reader.specs.declared.file_wrapper.FileWrapper.{FileWrapper}
use Rattle.reader.specs.declared.objects.ObjectRow.{ObjectRow}
use Rattle.reader.specs.declared.properties.PropertyRow.{PropertyRow}
use Rattle.reader.specs.declared.records.ObjectRecord.{ObjectRecord}
use Rattle.reader.specs.declared.records.Triple.{Triple}

-- "Object: saved id if not 0, else normal id": the region of an object's property block, "0 saved, 1 normal"
abbrev pub region_of : ObjectRecord → ℕ
region_of r = cond (eqb r.saveobj_id 0) 1 0

-- the id of the block there: "saved id if not 0, else normal id"
abbrev pub block_id_of : ObjectRecord → ℕ
block_id_of r = cond (eqb r.saveobj_id 0) r.normalobj_id r.saveobj_id

-- "saved property blocks in 1 to 2", "normal property blocks in 3 to 4": where a region begins
abbrev pub region_start : FileWrapper → ℕ → ℕ
region_start w g = cond (eqb g 0) (get_or w.offsets 1 0) (get_or w.offsets 3 0)

-- 10: "the blocks of its region", as check 7 counted them
abbrev pub region_blocks : FileWrapper → ℕ → ℕ
region_blocks w g = cond (eqb g 0) w.saveobj_blocks w.normalobj_blocks

-- 10: "Is the block id 0 or below the blocks of its region? Place: block id."
unfoldable pub check_block : FileWrapper → ObjectRecord → Result (Unit {0})
check_block w r = check 10 (eqb (block_id_of r) 0 || ltb (block_id_of r) (region_blocks w (region_of r))) (block_id_of r)

-- the byte of the count of an object's block, 0 where it has none
unfoldable pub block_start : List ℕ → FileWrapper → ObjectRecord → ℕ
block_start b w r = cond (eqb (block_id_of r) 0) 0 (block_at 12 b (region_start w (region_of r)) (block_id_of r))

-- "both 0 means no properties"
unfoldable pub property_count : List ℕ → FileWrapper → ObjectRecord → ℕ
property_count b w r = cond (eqb (block_id_of r) 0) 0 (u32_at b (block_start b w r))

-- "class id, region (0 saved, 1 normal), block id and property count; both ids 0 gives 1, 0, 0 for the last three"
abbrev pub object_row : List ℕ → FileWrapper → ObjectRecord → ObjectRow
object_row b w r = record {
  class_id = r.class_id;
  region = region_of r;
  block_id = block_id_of r;
  property_count = property_count b w r;
}

-- the row of an object by its record, once the blob is open: 10
unfoldable pub record_row : List ℕ → FileWrapper → ObjectRecord → Result ObjectRow
record_row b w r = do
  check_block w r
  ok (object_row b w r)

-- the same by the object's id
abbrev pub object_of : List ℕ → FileWrapper → ℕ → Result ObjectRow
object_of b w id = record_row b w (object_record b w id)

-- the n objects from id on
unfoldable pub objects_from : List ℕ → FileWrapper → ℕ → ℕ → Result (List ObjectRow)
objects_from b w id zero = ok []
objects_from b w id (suc n) = do
  row ← object_of b w id
  rows ← objects_from b w (suc id) n
  ok (row ∷ rows)

-- "1–7, then 10 for each id"
unfoldable pub object_rows : List ℕ → Result (List ObjectRow)
object_rows b = do
  w ← opened b
  objects_from b w 1 (w.records - 1)

-- a row that was not written
abbrev pub no_row : ObjectRow
no_row = record { class_id = 0; region = 0; block_id = 0; property_count = 0 }

-- eight of them
abbrev pub blank_rows : List ObjectRow
blank_rows = no_row ∷ no_row ∷ no_row ∷ no_row ∷ no_row ∷ no_row ∷ no_row ∷ no_row ∷ []

-- the n triples from byte i on
unfoldable pub triples_from : List ℕ → ℕ → ℕ → List Triple
triples_from b i zero = []
triples_from b i (suc n) = triple_at b i ∷ triples_from b (i + 12) n

-- "A block is a count, that many triples": those of an object
abbrev pub triples_of : List ℕ → FileWrapper → ObjectRecord → List Triple
triples_of b w r = triples_from b (block_start b w r + 4) (property_count b w r)

-- "for each triple 11 for its name, 12, and 11 again if the type is 0"
unfoldable pub check_triple : FileWrapper → Triple → Result (Unit {0})
check_triple w t = do
  check_name w t.name_idx
  check 12 (leb t.field_type 2) t.field_type
  cond (eqb t.field_type 0) (check_name w t.value) (ok tt)

-- "then for each triple" those checks, in the order of the block
unfoldable pub check_triples : FileWrapper → List Triple → Result (Unit {0})
check_triples w [] = ok tt
check_triples w (t ∷ ts) = check_triple w t >> check_triples w ts

-- the triples of an object's record: 10, then those of each triple
unfoldable pub record_triples : List ℕ → FileWrapper → ObjectRecord → Result (List Triple)
record_triples b w r = do
  check_block w r
  check_triples w (triples_of b w r)
  ok (triples_of b w r)

-- "one row a triple with its three numbers", and then "the count for its name, and for its value where that is a name (else 0)" (document 02,
-- P5), where count gives those of a name index
abbrev pub row_of : (ℕ → ℕ) → Triple → PropertyRow
row_of count t = record {
  name_index = t.name_idx;
  field_type = t.field_type;
  value = t.value;
  name_replaced = count t.name_idx;
  value_replaced = cond (eqb t.field_type 0) (count t.value) 0;
}

-- the count of a name index: "how many replacement characters were put in"
abbrev pub replaced_of : List ℕ → FileWrapper → ℕ → ℕ
replaced_of b w i = (shown b w i).replaced

-- the properties of an object's record: 10, then the checks of each triple
unfoldable pub record_properties : List ℕ → FileWrapper → ObjectRecord → Result (List PropertyRow)
record_properties b w r = do
  ts ← record_triples b w r
  ok (map (row_of (replaced_of b w)) ts)

-- "Properties: 1–7, 8, 10, then for each triple 11 for its name, 12, and 11 again if the type is 0"
unfoldable pub object_properties : List ℕ → ℕ → Result (List PropertyRow)
object_properties b id = do
  w ← opened b
  check_object w id
  record_properties b w (object_record b w id)

-- the position, from 0, of the first element for which a test holds
unfoldable pub position : {A : Type 0} → (A → Bool) → List A → Option ℕ
position p [] = None
position p (x ∷ xs) = cond (p x) (Some 0) (option_map suc (position p xs))

-- a triple's name is shown as the given bytes: the second road chooses by it
abbrev pub is_named : List ℕ → FileWrapper → List ℕ → Triple → Bool
is_named b w wanted t = same (shown b w t.name_idx).text wanted

-- a triple's name is stored as the given bytes: finding "compares the stored bytes" (document 02, P6)
abbrev pub is_stored_as : List ℕ → FileWrapper → List ℕ → Triple → Bool
is_stored_as b w wanted t = same (own_bytes b w t.name_idx) wanted

-- "Finding: as Properties, without 34": "the position, from 0, of the first", "else none"; "First match, and none, are read by this
-- comparison from now on" (document 02, P6)
unfoldable pub find_property : List ℕ → ℕ → List ℕ → Result (Option ℕ)
find_property b id wanted = do
  w ← opened b
  check_object w id
  ts ← record_triples b w (object_record b w id)
  ok (position (is_stored_as b w wanted) ts)
