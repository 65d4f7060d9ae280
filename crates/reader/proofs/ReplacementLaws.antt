-- Repaired names are visible (document 02, P5): what the counts say, and that nothing else has changed.
-- Assumes nothing.
use mathlib.Core.Path.{◌≡◌, refl, sym, ap, ◌∙◌}
use mathlib.Core.Bool.{cond}
use mathlib.Core.List.{List, [], ◌∷◌, ◌++◌, map}
use Rattle.std.specs.Prelude.{Some}
use Prim.Native.Nat.{ℕ, ◌≤◌}
use borrow.Author.Tests.{le-leb}
use lib.Dec.{eqb, leb}
use lib.ListN.{length, length-map, get_or}
use Rattle.text.specs.Result.{Result, ok, error, map_result, ◌>>◌, ◌>>=◌}
use Rattle.text.specs.Utf8.{lossy, parts_from, repaired, scalars8}
use Rattle.text.proofs.TestLaws.{either}
use Rattle.text.proofs.Utf8Laws.{lossy_same}
use Rattle.text.proofs.utf8.Lossy.{none_replaced, sound_replaced}
use Rattle.reader.specs.Names.{ShownText, name_bytes}
use Rattle.reader.specs.Objects.{record_triples, row_of, replaced_of, record_properties, object_properties}
use Rattle.reader.specs.Opening.{opened}
use Rattle.reader.specs.Queries.{into_output, into_text, check_name, shown, name_text, check_names, entry_text, entry_of, class_of, class_text, object_record, check_object, object_class_text}
use Rattle.reader.specs.Stages.Properties.{object_triples}
use Rattle.reader.specs.declared.file_wrapper.FileWrapper.{FileWrapper}
use Rattle.reader.specs.declared.records.ClassEntry.{ClassEntry}
use Rattle.reader.specs.declared.properties.PropertyRow.{PropertyRow}
use Rattle.reader.specs.declared.records.Triple.{Triple}

-- ---- what a count says

module _ (b : List ℕ) (w : FileWrapper) (i : ℕ) where
  -- the name as it is stored
  abbrev stored : List ℕ
  stored = name_bytes b (get_or w.offsets 0 0) i

  -- the count is 0 exactly where the name is well-formed
  pub counted_0 : (shown b w i).replaced ≡ 0 → scalars8 stored ≡ Some (repaired (parts_from stored 0))
  counted_0 z = none_replaced stored z

  pub sound_0 : {vs : List ℕ} → scalars8 stored ≡ Some vs → (shown b w i).replaced ≡ 0
  sound_0 e = sound_replaced stored e

  -- and the name is then shown as it is stored
  pub shown_as_stored : (shown b w i).replaced ≡ 0 → (shown b w i).text ≡ stored
  shown_as_stored z = lossy_same stored (counted_0 z)

  -- the count of a row is what resolving the name tells
  pub row_count : opened b ≡ ok w → i ≤ w.names → map_result (λ t. t.replaced) (name_text b i) ≡ ok (replaced_of b w i)
  unfolding name_text
  row_count o h = rw o (simp (le-leb i w.names h))

-- ---- the queries without counts, as they were defined before

pub base_shown : List ℕ → FileWrapper → ℕ → List ℕ
base_shown b w i = lossy (name_bytes b (get_or w.offsets 0 0) i)

pub base_name : List ℕ → ℕ → Result (List ℕ)
base_name b i = do
  w ← opened b
  check_name w i
  ok (base_shown b w i)

pub base_entry : List ℕ → FileWrapper → ClassEntry → Result (List ℕ)
base_entry b w e = do
  check_names w e
  ok (cond (eqb e.namespace_idx 0) (base_shown b w e.name_idx) (base_shown b w e.namespace_idx ++ 0x2E ∷ base_shown b w e.name_idx))

pub base_class_of : List ℕ → FileWrapper → ℕ → Result (List ℕ)
base_class_of b w c = do
  e ← entry_of b w c
  base_entry b w e

pub base_class : List ℕ → ℕ → Result (List ℕ)
base_class b c = do
  w ← opened b
  base_class_of b w c

pub base_object_class : List ℕ → ℕ → Result (List ℕ)
base_object_class b id = do
  w ← opened b
  check_object w id
  base_class_of b w (object_record b w id).class_id

pub base_row : Triple → List ℕ
base_row t = t.name_idx ∷ t.field_type ∷ t.value ∷ []

-- ---- nothing else has changed

module _ {A B C : Type 0} (f : B → C) where
  pub map_bind : (m : Result A) (g : A → Result B) (h : A → Result C) → ((a : A) → map_result f (g a) ≡ h a) → map_result f (m >>= g) ≡ (m >>= h)
  map_bind (ok a) g h e = e a
  map_bind (error x) g h e = refl

  pub map_seq : (m : Result A) (k : Result B) {l : Result C} → map_result f k ≡ l → map_result f (m >> k) ≡ (m >> l)
  map_seq (ok a) k e = e
  map_seq (error x) k e = refl

abbrev text_of : ShownText → List ℕ
text_of t = t.text

text_into : (m : Result ShownText) (room : ℕ) → map_result text_of (into_text m room) ≡ into_output (map_result text_of m) room
text_into (error e) room = refl
text_into (ok t) room = either (leb (length t.text) room) (λ h. simp h) (λ h. simp h)

-- a name's text, its refusals and what it needs are those of before
pub name_kept : (b : List ℕ) (i room : ℕ) → map_result text_of (into_text (name_text b i) room) ≡ into_output (base_name b i) room
unfolding name_text base_name base_shown
name_kept b i room =
    text_into (name_text b i) room
    ∙ ap (λ (m : Result (List ℕ)). into_output m room) (map_bind text_of (opened b) _ _ (λ w. map_seq text_of (check_name w i) _ refl))

class_of_kept : (b : List ℕ) (w : FileWrapper) (c : ℕ) → map_result text_of (class_of b w c) ≡ base_class_of b w c
unfolding class_of entry_text base_class_of base_entry base_shown
class_of_kept b w c =
    map_bind text_of (entry_of b w c) _ _
    (λ e. map_seq text_of (check_names w e) _ (either (eqb e.namespace_idx 0) (λ z. simp z) (λ z. simp z)))

-- and so are a class's
pub class_kept : (b : List ℕ) (c room : ℕ) → map_result text_of (into_text (class_text b c) room) ≡ into_output (base_class b c) room
unfolding class_text base_class
class_kept b c room =
    text_into (class_text b c) room
    ∙ ap (λ (m : Result (List ℕ)). into_output m room) (map_bind text_of (opened b) _ _ (λ w. class_of_kept b w c))

pub object_class_kept : (b : List ℕ) (id room : ℕ) → map_result text_of (into_text (object_class_text b id) room) ≡ into_output (base_object_class b id) room
unfolding object_class_text base_object_class
object_class_kept b id room =
    text_into (object_class_text b id) room
    ∙ ap (λ (m : Result (List ℕ)). into_output m room)
    (map_bind text_of (opened b) _ _ (λ w. map_seq text_of (check_object w id) _ (class_of_kept b w (object_record b w id).class_id)))

-- the first three numbers of a row
pub front_of : PropertyRow → List ℕ
front_of r = r.name_index ∷ r.field_type ∷ r.value ∷ []

front_rows : (count : ℕ → ℕ) (ts : List Triple) → map front_of (map (row_of count) ts) ≡ map base_row ts
unfolding base_row front_of
front_rows count [] = refl
front_rows count (t ∷ ts) = ap (λ (rows : List (List ℕ)). base_row t ∷ rows) (front_rows count ts)

rows_into : {A B : Type 0} (f : List A → List B) → ((xs : List A) → length (f xs) ≡ length xs) → (m : Result (List A)) (room : ℕ)
    → map_result f (into_output m room) ≡ into_output (map_result f m) room
rows_into f h (error e) room = refl
rows_into f h (ok xs) room = rw (h xs) (either (leb (length xs) room) (λ t. simp t) (λ t. simp t))

-- the rows are those of before with two numbers more, and so are the refusals and the need
pub properties_kept : (b : List ℕ) (id room : ℕ)
    → map_result (map front_of) (into_output (object_properties b id) room) ≡ into_output (map_result (map base_row) (object_triples b id)) room
unfolding object_properties record_properties object_triples
properties_kept b id room =
    rows_into (map front_of) (λ rows. length-map rows front_of) (object_properties b id) room
    ∙ ap (λ (m : Result (List (List ℕ))). into_output m room)
    (map_bind (map front_of) (opened b) _ _
    (λ w. map_seq (map front_of) (check_object w id) _ (map_bind (map front_of) (record_triples b w (object_record b w id)) _ _ (λ ts. ap ok (front_rows (replaced_of b w) ts))))
    ∙ sym (map_bind (map base_row) (opened b) _ _
    (λ w. map_seq (map base_row) (check_object w id) _ (rows_of (record_triples b w (object_record b w id))))))
  where
    rows_of : (m : Result (List Triple)) → map_result (map base_row) m ≡ (m >>= λ ts. ok (map base_row ts))
    rows_of (ok ts) = refl
    rows_of (error e) = refl
