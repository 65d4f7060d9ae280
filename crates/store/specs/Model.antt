-- Demand 3: the reference model (01's edited list), the execution of the edits' own definitions, and the claim about every list of edits.
-- Assumes nothing.
use Rattle.std.specs.Prelude.{ℕ, ◌-◌, ◌*◌, ◌≤◌, ◌≡◌, List, [], ◌∷◌, ◌++◌, leb, length, get_or, set}
use Rattle.text.specs.Result.{Result, ok, error, check, check_output, ◌>>◌, ◌>>=◌}
use Rattle.writer.specs.Array.{Array, no_array, array_of}
use Rattle.writer.specs.Spans.{joined}
use Rattle.reader.specs.Decode.{any_name, string_name, metadata_strings, object_strings}
use Rattle.reader.specs.Names.{sound_text}
use Rattle.reader.specs.Objects.{object_properties}
use Rattle.reader.specs.Opaque.{opaque_metadata}
use Rattle.reader.specs.Queries.{into_output, into_text, name_text, object_class_text}
use Rattle.reader.specs.Saveobj.{into_strings}
use Rattle.reader.specs.declared.opaque.OpaqueMetadata.{OpaqueMetadata}
use Rattle.store.specs.Store.{Store, Lengths, lengths_of, serialize, counted}
use Rattle.store.specs.Edits.{appended, replaced, reply_of, store_after}

-- a call with its arguments as they are lent: the id of a replacement, dimensions, text, spans
pub data Edit : Type 0 where
  append : List ℕ → List ℕ → List ℕ → Edit
  replace : ℕ → List ℕ → List ℕ → List ℕ → Edit

-- what a list of edits comes to: what it leaves, and the reply of each
pub record Ended (A : Type 0) : Type 0 where
  pub last : A
  pub replies : List (Result (Unit {0}))

-- ---- the model: "fed only the calls' arguments and the buffers' lengths"

-- 34 for the parts of a store, "Sequence: blob, directory, kinds, words"
unfoldable pub check_lengths : Lengths → Store → Result (Unit {0})
check_lengths l s = do
  check_output (length s.blob) l.blob
  check_output (length s.directory) l.directory
  check_output (length s.kinds) l.kinds
  check_output (length s.words) l.words

-- the list that an array makes is tried: "A trial puts 30, 31, 32 in turn, then 34 against the lengths of the tried list's written form."
unfoldable pub tried : Lengths → List ℕ → List ℕ → List ℕ → (Array → List Array) → Result (List Array)
tried l dims text spans list = do
  a ← array_of dims text spans
  check 32 (leb (length (list a)) 349522) (length (list a))
  check_lengths l (serialize (list a))
  ok (list a)

-- "Append tries the list with its array added last; replace first puts 8 (from 1 to the number of arrays), then tries the list with its array
-- in place of that id's."
unfoldable pub candidate : Lengths → List Array → Edit → Result (List Array)
candidate l xs (append dims text spans) = tried l dims text spans (λ a. xs ++ a ∷ [])
candidate l xs (replace id dims text spans) = do
  check 8 (leb 1 id) id
  check 8 (leb id (length xs)) id
  tried l dims text spans (λ a. set xs (id - 1) a)

-- "A no is the call's refusal and the list stays; otherwise the tried list is the list."
abbrev pub list_after : List Array → Result (List Array) → List Array
list_after xs (ok ys) = ys
list_after xs (error e) = xs

-- the edited list, begun with the arrays xs: what it is after the edits, and the reply of each
unfoldable pub model_from : Lengths → List Array → List Edit → Ended (List Array)
model_from l xs [] = record { last = xs; replies = [] }
model_from l xs (e ∷ es) = record {
  last = (model_from l (list_after xs (candidate l xs e)) es).last;
  replies = reply_of (candidate l xs e) ∷ (model_from l (list_after xs (candidate l xs e)) es).replies;
}

-- "The edited list of demand 3 starts with no arrays"
abbrev pub model : Lengths → List Edit → Ended (List Array)
model l es = model_from l [] es

-- ---- the execution: "each call gets the buffers and counts as the last one left them"

-- what an edit comes to on a store, by the definitions that the calls' contracts cite
unfoldable pub call : Store → Edit → Result (List Array)
call s (append dims text spans) = appended s dims text spans
call s (replace id dims text spans) = replaced s id dims text spans

-- the edits one after another: the store that is left, and the reply of each
unfoldable pub execute : Store → List Edit → Ended Store
execute s [] = record { last = s; replies = [] }
execute s (e ∷ es) = record {
  last = (execute (store_after s (call s e)) es).last;
  replies = reply_of (call s e) ∷ (execute (store_after s (call s e)) es).replies;
}

-- ---- the claim

-- object id of a store, "read into buffers no shorter than the answer", by the definitions that the calls' contracts cite: class "string", "the
-- single property "any" with heap value id − 1", and the strings of array a, "by any accepted word list whose ids are that one id, once, or by
-- the object's own property"
pub record ReadsBack (s : Store) (id : ℕ) (a : Array) : Type 0 where
  pub class : (room : ℕ) → length string_name ≤ room → into_text (object_class_text s.blob id) room ≡ ok (sound_text string_name)
  pub property : (room : ℕ) → 1 ≤ room → into_output (object_properties s.blob id) room ≡ ok ((record { name_index = 1; field_type = 1; value = id - 1; name_replaced = 0; value_replaced = 0 }) ∷ [])
  pub name : (room : ℕ) → length any_name ≤ room → into_text (name_text s.blob 1) room ≡ ok (sound_text any_name)
  pub by_metadata :
      (metadata : List ℕ) {m : OpaqueMetadata} → opaque_metadata metadata ≡ ok m → m.ids ≡ 1 → get_or metadata m.first_id 0 ≡ id
      → (text_room span_room : ℕ) → length (joined a.strings) ≤ text_room → 2 * length a.strings ≤ span_room
      → into_strings (metadata_strings s.blob s.directory s.kinds s.words metadata) text_room span_room ≡ ok a.strings
  pub by_property :
      (text_room span_room : ℕ) → length (joined a.strings) ≤ text_room → 2 * length a.strings ≤ span_room
      → into_strings (object_strings s.blob s.directory s.kinds s.words id) text_room span_room ≡ ok a.strings

-- after the edits es on the store s the replies are these and the store is s'
pub record Edited (s : Store) (es : List Edit) (s' : Store) (replies : List (Result (Unit {0}))) : Type 0 where
  -- "each call is accepted, or refused with its number and place, exactly as 01's edited list says"
  pub answers : replies ≡ (model (lengths_of s) es).replies
  -- "the counted parts [..] and the three counts, are exactly the written form of the edited list's n arrays"
  pub store : counted s' ≡ serialize (model (lengths_of s) es).last
  -- "Each id from 1 to n [..] gives [..] the strings of its own array, number id of the edited list, in order"
  pub reads :
      (id : ℕ) → 1 ≤ id → id ≤ length (model (lengths_of s) es).last
      → ReadsBack (counted s') id (get_or (model (lengths_of s) es).last (id - 1) no_array)
