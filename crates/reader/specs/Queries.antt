-- Queries on an opened blob, each as its checks in sequence.
-- Assumes nothing.
use Rattle.std.specs.Prelude.{ℕ, ◌+◌, ◌*◌, cond, List, ◌∷◌, ◌++◌, leb, ltb, eqb, length, get_or}
use Rattle.text.specs.Result.{Result, ok, check, check_output, ◌>>◌, ◌>>=◌}
use Rattle.reader.specs.Names.{ShownText, name_bytes, shown_name}
use Rattle.reader.specs.Opening.{opened}
use Rattle.reader.specs.Wire.{class_entry_at, object_record_at}
use Rattle.reader.specs.declared.file_wrapper.FileWrapper.{FileWrapper}
use Rattle.reader.specs.declared.records.ClassEntry.{ClassEntry}
use Rattle.reader.specs.declared.records.ObjectRecord.{ObjectRecord}

-- "Called alone, each ends with 34": rows for an output of this length
abbrev pub into_output : {A : Type 0} → Result (List A) → ℕ → Result (List A)
into_output m room = do
  out ← m
  check_output (length out) room
  ok out

-- the same for a text as it is shown
abbrev pub into_text : Result ShownText → ℕ → Result ShownText
into_text m room = do
  shown ← m
  check_output (length shown.text) room
  ok shown

-- 11: "Is the name index at most the number of names? Place: index."
abbrev pub check_name : FileWrapper → ℕ → Result (Unit {0})
check_name w i = check 11 (leb i w.names) i

-- "the name's own bytes" (document 02, P1), as they are stored in an opened blob, whose heap ends at offset 0
abbrev pub own_bytes : List ℕ → FileWrapper → ℕ → List ℕ
own_bytes b w i = name_bytes b (get_or w.offsets 0 0) i

-- the name of an index as it is shown
abbrev pub shown : List ℕ → FileWrapper → ℕ → ShownText
shown b w i = shown_name b (get_or w.offsets 0 0) i

-- "Name: 1–7, 11"
unfoldable pub name_text : List ℕ → ℕ → Result ShownText
name_text b i = do
  w ← opened b
  check_name w i
  ok (shown b w i)

-- "A class entry is 16 bytes"
abbrev pub class_entry : List ℕ → FileWrapper → ℕ → ClassEntry
class_entry b w c = class_entry_at b (get_or w.offsets 0 0 + 16 * c)

-- "namespace, full stop, name", and "the sum over namespace and name" of the replacement characters (document 02, P5)
abbrev pub qualified : ShownText → ShownText → ShownText
qualified space name = record { text = space.text ++ 0x2E ∷ name.text; replaced = space.replaced + name.replaced }

-- "shown as namespace, full stop, name if the namespace index is not 0"
abbrev pub shown_class : List ℕ → FileWrapper → ClassEntry → ShownText
shown_class b w e =
    cond (eqb e.namespace_idx 0) (shown b w e.name_idx) (qualified (shown b w e.namespace_idx) (shown b w e.name_idx))

-- "11 for the name, 11 for the namespace"
unfoldable pub check_names : FileWrapper → ClassEntry → Result (Unit {0})
check_names w e = do
  check_name w e.name_idx
  check_name w e.namespace_idx

-- the text of a class entry: 11, 11
unfoldable pub entry_text : List ℕ → FileWrapper → ClassEntry → Result ShownText
entry_text b w e = do
  check_names w e
  ok (shown_class b w e)

-- 9: "Is the class id below the class entries? Place: class id."
unfoldable pub entry_of : List ℕ → FileWrapper → ℕ → Result ClassEntry
entry_of b w c = do
  check 9 (ltb c w.classes) c
  ok (class_entry b w c)

-- a class of an opened blob: 9, 11, 11
unfoldable pub class_of : List ℕ → FileWrapper → ℕ → Result ShownText
class_of b w c = do
  e ← entry_of b w c
  entry_text b w e

-- a class by its id: 1–7, 9, 11, 11
unfoldable pub class_text : List ℕ → ℕ → Result ShownText
class_text b c = do
  w ← opened b
  class_of b w c

-- "an object record 24"
abbrev pub object_record : List ℕ → FileWrapper → ℕ → ObjectRecord
object_record b w id = object_record_at b (get_or w.offsets 2 0 + 24 * id)

-- 8: "Is the id from 1 to records − 1? Place: id."
unfoldable pub check_object : FileWrapper → ℕ → Result (Unit {0})
check_object w id = do
  check 8 (leb 1 id) id
  check 8 (ltb id w.records) id

-- "Class: 1–7, 8, 9, 11 for the name, 11 for the namespace"
unfoldable pub object_class_text : List ℕ → ℕ → Result ShownText
object_class_text b id = do
  w ← opened b
  check_object w id
  class_of b w (object_record b w id).class_id
