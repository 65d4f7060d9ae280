-- What the stages that count the replacement characters of names promise each other (document 02, P5).
-- Assumes nothing.
use Rattle.std.specs.Prelude.{ℕ, ◌≤◌, ◌≡◌, Bool, true, false, cond, List, map, eqb, ltb}
use Rattle.text.specs.Result.{ok}
use Rattle.reader.specs.Objects.{check_triples, row_of, replaced_of}
use Rattle.reader.specs.Stages.Chunks.{value_in}
use Rattle.reader.specs.declared.file_wrapper.Metadata.{Metadata}
use Rattle.reader.specs.declared.properties.PropertyRow.{PropertyRow}
use Rattle.reader.specs.declared.records.Triple.{Triple}

-- before any name is counted
abbrev pub no_count : ℕ → ℕ
no_count i = 0

-- the counts of the names below end, and 0 for the others
unfoldable pub count_below : Metadata → ℕ → ℕ → ℕ
count_below m end i = cond (ltb i end) (replaced_of m.blob.now m.w i) 0

-- a row with the counts of the names from first up to end put in
unfoldable pub recounted : List ℕ → ℕ → ℕ → PropertyRow → PropertyRow
recounted counts first end row = record {
  name_index = row.name_index;
  field_type = row.field_type;
  value = row.value;
  name_replaced = value_in counts first end row.name_index row.name_replaced;
  value_replaced = cond (eqb row.field_type 0) (value_in counts first end row.value row.value_replaced) row.value_replaced;
}

-- where a heap is told to be sound, no declared name has a replaced part
abbrev pub SoundNames : Metadata → Bool → Type 0
SoundNames m true = (i : ℕ) → i ≤ m.w.names → replaced_of m.blob.now m.w i ≡ 0
SoundNames m false = Unit {0}

-- the rows of triples that passed their checks have the counts of their names
pub record CountsRows (m : Metadata) (rows rows' : List PropertyRow) : Type 0 where
  pub is :
      (ts : List Triple) → check_triples m.w ts ≡ ok tt
      → rows ≡ map (row_of no_count) ts → rows' ≡ map (row_of (replaced_of m.blob.now m.w)) ts
