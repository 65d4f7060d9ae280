-- String objects by both roads of document 01: through opaque metadata (`decode_string`), and through an object's property
-- (`decode_string_object`).
-- Assumes nothing.
use Rattle.std.specs.Option.{unwrap_or}
use Rattle.std.specs.Prelude.{ℕ, List, [], ◌∷◌, ◌++◌, eqb, length, get_or, take, drop}
use Rattle.text.specs.Buffer.{same}
use Rattle.text.specs.Result.{Result, ok, check, ◌>>◌, ◌>>=◌}
use Rattle.reader.specs.Cells.{check_directory, cell_at, cell_of}
use Rattle.reader.specs.Names.{ShownText}
use Rattle.reader.specs.Objects.{record_triples, position, is_named}
use Rattle.reader.specs.Opaque.{opaque_metadata}
use Rattle.reader.specs.Opening.{opened}
use Rattle.reader.specs.Queries.{class_of, check_object, object_record}
use Rattle.reader.specs.Saveobj.{decode_payload}
use Rattle.reader.specs.declared.file_wrapper.FileWrapper.{FileWrapper}
use Rattle.reader.specs.declared.records.Triple.{Triple}

-- ---- the first road

-- 14, 15, 22–29 for one id
unfoldable pub id_strings : List ℕ → List ℕ → List ℕ → ℕ → Result (List (List ℕ))
id_strings directory kinds words id = do
  payload ← cell_of directory kinds words id
  decode_payload payload

-- "for each id in turn"
unfoldable pub ids_strings : List ℕ → List ℕ → List ℕ → List ℕ → Result (List (List ℕ))
ids_strings directory kinds words [] = ok []
ids_strings directory kinds words (id ∷ ids) = do
  first ← id_strings directory kinds words id
  rest ← ids_strings directory kinds words ids
  ok (first ++ rest)

-- "First road: 1–7, 13, 17–21, then 14, 15, 22–29 for each id in turn"
unfoldable pub metadata_strings : List ℕ → List ℕ → List ℕ → List ℕ → List ℕ → Result (List (List ℕ))
metadata_strings blob directory kinds words metadata = do
  opened blob
  check_directory directory kinds (length words)
  m ← opaque_metadata metadata
  ids_strings directory kinds words (take m.ids (drop m.first_id metadata))

-- ---- the second road

-- "the property named "any""
abbrev pub any_name : List ℕ
any_name = 0x61 ∷ 0x6E ∷ 0x79 ∷ []

-- 16: the class "string"
abbrev pub string_name : List ℕ
string_name = 0x73 ∷ 0x74 ∷ 0x72 ∷ 0x69 ∷ 0x6E ∷ 0x67 ∷ []

-- 16 for a class, as it is shown
abbrev pub check_string_class : Result ShownText → Result (Unit {0})
check_string_class shown = do
  class ← shown
  check 16 (same class.text string_name) 0

-- 9, 11, 11, 16 for the class of an id
unfoldable pub string_class : List ℕ → FileWrapper → ℕ → Result (Unit {0})
string_class blob w c = check_string_class (class_of blob w c)

-- the position of the property that leads to the cell: "the property named "any", else the first"
abbrev pub chosen_index : List ℕ → FileWrapper → List Triple → ℕ
chosen_index blob w ts = unwrap_or (position (is_named blob w any_name) ts) 0

-- 16 for the property, then the cell of its heap value: 14, 15, 22–29
unfoldable pub property_strings : List ℕ → List ℕ → List ℕ → Triple → Result (List (List ℕ))
property_strings directory kinds words t = do
  check 16 (eqb t.field_type 1) 1
  payload ← cell_at directory kinds words t.value t.value
  decode_payload payload

-- "an object without properties is one empty string"
unfoldable pub triples_strings : List ℕ → FileWrapper → List ℕ → List ℕ → List ℕ → List Triple → Result (List (List ℕ))
triples_strings blob w directory kinds words [] = ok ([] ∷ [])
triples_strings blob w directory kinds words (t ∷ ts) = property_strings directory kinds words (get_or (t ∷ ts) (chosen_index blob w (t ∷ ts)) t)

-- "Second road: 1–7, 13, Class, 16 for the class, Properties, 16, 14, 15, 22–29"; 1–7 and 8 hold again in Properties
unfoldable pub object_strings : List ℕ → List ℕ → List ℕ → List ℕ → ℕ → Result (List (List ℕ))
object_strings blob directory kinds words id = do
  w ← opened blob
  check_directory directory kinds (length words)
  check_object w id
  string_class blob w (object_record blob w id).class_id
  ts ← record_triples blob w (object_record blob w id)
  triples_strings blob w directory kinds words ts
