-- A blob of length 0 (document 02, P2): what each query answers, and that the next length that opens is 40.
-- Assumes nothing.
use Prim.Native.Nat.{ℕ, ◌≤◌, ◌<◌}
use mathlib.Core.Path.{◌≡◌, refl}
use mathlib.Core.List.{List, []}
use native.Mathlib.Omega.{arith}
use borrow.Author.Tests.{le-leb, lt-leb, le-ltb, ne_eqb}
use lib.Dec.{leb}
use lib.ListN.{length}
use Rattle.text.specs.Result.{ok, error, ◌>>◌}
use Rattle.text.specs.declared.error.Failure.{Failure}
use Rattle.text.proofs.TestLaws.{either}
use Rattle.text.proofs.Utf8Laws.{scalars8_empty, lossy_same}
use Rattle.text.proofs.utf8.Lossy.{sound_replaced}
use Rattle.reader.specs.Cells.{check_directory}
use Rattle.reader.specs.Decode.{metadata_strings, object_strings}
use Rattle.reader.specs.Labels.{placeholder_part, label_of}
use Rattle.reader.specs.Names.{name_bytes, sound_text}
use Rattle.reader.specs.Objects.{object_rows, objects_from, object_properties, find_property}
use Rattle.reader.specs.Opening.{empty_wrapper, opened}
use Rattle.reader.specs.Queries.{into_output, into_text, name_text, entry_of, class_of, class_text, check_object, object_class_text}
use Rattle.reader.specs.declared.file_wrapper.FileWrapper.{FileWrapper}
use Rattle.reader.proofs.labels.Laws.{label_zero}

-- ---- opening

pub empty_opens : opened [] ≡ ok empty_wrapper
unfolding opened
empty_opens = refl

-- "The 39-byte case stands."
pub short_refused : (b : List ℕ) → 1 ≤ length b → length b < 40 → opened b ≡ error (record { number = 2; place = length b })
unfolding opened
short_refused b h l = simp (le-leb (length b) 16777216 (omega arith), ne_eqb (length b) 0 (λ z. omega arith), lt-leb 40 (length b) l)

-- ---- names, classes and objects

-- index 0, into an output of any length
pub empty_name : (room : ℕ) → into_text (name_text [] 0) room ≡ ok (sound_text [])
unfolding name_text name_bytes
empty_name room = rw (empty_opens, lossy_same [] scalars8_empty, sound_replaced [] scalars8_empty) (simp (le-leb 0 room (omega arith)))

pub empty_name_refused : (i : ℕ) → 1 ≤ i → name_text [] i ≡ error (record { number = 11; place = i })
unfolding name_text
empty_name_refused i h = rw empty_opens (simp (lt-leb i 0 h))

pub empty_label : (placeholder : List ℕ) → label_of [] placeholder 0 ≡ ok (placeholder_part (length placeholder))
empty_label placeholder = label_zero [] placeholder empty_opens

pub empty_label_refused : (placeholder : List ℕ) (i : ℕ) → 1 ≤ i → label_of [] placeholder i ≡ error (record { number = 11; place = i })
unfolding label_of
empty_label_refused placeholder i h = rw empty_opens (simp (lt-leb i 0 h))

pub empty_class_refused : (c : ℕ) → class_text [] c ≡ error (record { number = 9; place = c })
unfolding class_text class_of entry_of
empty_class_refused c = rw empty_opens (simp (le-ltb c 0 (omega arith)))

-- no rows, into a list of any length
pub empty_objects : (room : ℕ) → into_output (object_rows []) room ≡ ok []
unfolding object_rows objects_from
empty_objects room = rw empty_opens (simp (le-leb 0 room (omega arith)))

-- "Where 8 is put against the blob, every id then gives 8"
module _ (id : ℕ) where
  abbrev no_object : Failure
  no_object = record { number = 8; place = id }

  refused : check_object empty_wrapper id ≡ error no_object
  unfolding check_object
  refused = either (leb 1 id) (λ t. simp (t, le-ltb id 0 (omega arith))) (λ t. simp t)

  pub empty_object_class : object_class_text [] id ≡ error no_object
  unfolding object_class_text
  empty_object_class = rw (empty_opens, refused)

  pub empty_properties : object_properties [] id ≡ error no_object
  unfolding object_properties
  empty_properties = rw (empty_opens, refused)

  pub empty_find : (wanted : List ℕ) → find_property [] id wanted ≡ error no_object
  unfolding find_property
  empty_find wanted = rw (empty_opens, refused)

  -- the second road: 13, then 8
  pub empty_object_strings :
      (directory kinds words : List ℕ) → object_strings [] directory kinds words id ≡ (check_directory directory kinds (length words) >> error no_object)
  unfolding object_strings
  empty_object_strings directory kinds words = rw (empty_opens, refused)

-- "the first road, as before, doesn't put it": it gives what it gives beside any blob that opens
pub empty_metadata_strings :
    (b : List ℕ) {w : FileWrapper} → opened b ≡ ok w
    → (directory kinds words metadata : List ℕ) → metadata_strings [] directory kinds words metadata ≡ metadata_strings b directory kinds words metadata
unfolding metadata_strings
empty_metadata_strings b o directory kinds words metadata = rw (empty_opens, o)
