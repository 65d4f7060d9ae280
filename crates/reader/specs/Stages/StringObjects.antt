-- What the stages of decoding a string object promise each other.
-- Assumes nothing.
use Rattle.std.specs.Prelude.{ℕ, List, [], ◌∷◌, get_or}
use Rattle.std.specs.Prelude.{Option, Some, None}
use Rattle.text.specs.Result.{Result, ok, ◌>>◌, ◌>>=◌}
use Rattle.reader.specs.Decode.{chosen_index, string_class, property_strings}
use Rattle.reader.specs.Objects.{record_triples}
use Rattle.reader.specs.Queries.{check_object, object_record}
use Rattle.reader.specs.declared.file_wrapper.FileWrapper.{FileWrapper}
use Rattle.reader.specs.declared.records.ObjectRecord.{ObjectRecord}
use Rattle.reader.specs.declared.records.Triple.{Triple}

-- the property that leads to the cell, none where an object has no properties
abbrev pub chosen_of : List ℕ → FileWrapper → List Triple → Option Triple
chosen_of blob w [] = None
chosen_of blob w (t ∷ ts) = Some (get_or (t ∷ ts) (chosen_index blob w (t ∷ ts)) t)

-- 10 to 12
unfoldable pub chosen_property : List ℕ → FileWrapper → ObjectRecord → Result (Option Triple)
chosen_property blob w r = do
  ts ← record_triples blob w r
  ok (chosen_of blob w ts)

-- 8, 9, 11, 11, 16 for the class, 10 to 12
unfoldable pub string_property : List ℕ → FileWrapper → ℕ → Result (Option Triple)
string_property blob w id = do
  check_object w id
  string_class blob w (object_record blob w id).class_id
  chosen_property blob w (object_record blob w id)

-- the strings that a chosen property leads to
abbrev pub chosen_strings : List ℕ → List ℕ → List ℕ → Option Triple → Result (List (List ℕ))
chosen_strings directory kinds words None = ok ([] ∷ [])
chosen_strings directory kinds words (Some t) = property_strings directory kinds words t
