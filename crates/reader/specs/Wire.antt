-- Little-endian integers of a blob, and the records that stand in it.
-- Assumes nothing.
use Rattle.std.specs.Prelude.{ℕ, ◌+◌, ◌*◌, List, get_or}
use Rattle.reader.specs.declared.records.ClassEntry.{ClassEntry}
use Rattle.reader.specs.declared.records.ObjectRecord.{ObjectRecord}
use Rattle.reader.specs.declared.records.Triple.{Triple}

-- the 32-bit word at byte i
unfoldable pub u32_at : List ℕ → ℕ → ℕ
u32_at b i = get_or b i 0 + 256 * get_or b (i + 1) 0 + 65536 * get_or b (i + 2) 0 + 16777216 * get_or b (i + 3) 0

-- "Class: namespace index at 0, name index at 4"
abbrev pub class_entry_at : List ℕ → ℕ → ClassEntry
class_entry_at b i = record { namespace_idx = u32_at b i; name_idx = u32_at b (i + 4) }

-- "Object: class id at 0, saved id at 12, normal id at 16, dependency id at 20"
abbrev pub object_record_at : List ℕ → ℕ → ObjectRecord
object_record_at b i = record {
  class_id = u32_at b i;
  saveobj_id = u32_at b (i + 12);
  normalobj_id = u32_at b (i + 16);
  dependency_id = u32_at b (i + 20);
}

-- a triple: "name index, type, value"
abbrev pub triple_at : List ℕ → ℕ → Triple
triple_at b i = record { name_idx = u32_at b i; field_type = u32_at b (i + 4); value = u32_at b (i + 8) }
