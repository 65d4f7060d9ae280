-- A store of string objects, its canonical form (01's written form), and check 33.
-- Assumes nothing.
use Rattle.std.specs.Prelude.{ℕ, ◌*◌, Bool, true, ◌&&◌, List, [], ◌∷◌, map, eqb, length, take, replicate}
use Rattle.text.specs.Buffer.{same}
use Rattle.writer.specs.Array.{Array, payloads, payload_spans}
use Rattle.writer.specs.FileWrapper.{file_wrapper}
use Rattle.writer.specs.Spans.{strings_from}
use Rattle.reader.specs.Saveobj.{decoded_array, is_canonical_payload}

-- "three counts (objects, blob bytes, words)", and the four buffers
pub record Store : Type 0 where
  pub objects : ℕ
  pub blob_bytes : ℕ
  pub used_words : ℕ
  pub blob : List ℕ
  pub directory : List ℕ
  pub kinds : List ℕ
  pub words : List ℕ

-- "the buffers' lengths"
pub record Lengths : Type 0 where
  pub blob : ℕ
  pub directory : ℕ
  pub kinds : ℕ
  pub words : ℕ

-- those of a store's buffers, counted or not
abbrev pub lengths_of : Store → Lengths
lengths_of s = record { blob = length s.blob; directory = length s.directory; kinds = length s.kinds; words = length s.words }

-- a store by its counts and buffers
abbrev pub store_of : ℕ → ℕ → ℕ → List ℕ → List ℕ → List ℕ → List ℕ → Store
store_of objects blob_bytes used_words blob directory kinds words = record {
  objects = objects;
  blob_bytes = blob_bytes;
  used_words = used_words;
  blob = blob;
  directory = directory;
  kinds = kinds;
  words = words;
}

-- "Written form for n arrays: the blob of `build_string_filewrapper_metadata` for n, 144 + 48n bytes; payloads end to end from word 0, each
-- exactly what writing gives for its own dimensions and strings; the directory their pairs; kinds 0; counts n, 144 + 48n and the payloads'
-- words."
abbrev pub serialize : List Array → Store
serialize xs = record {
  objects = length xs;
  blob_bytes = length (file_wrapper (length xs));
  used_words = length (payloads xs);
  blob = file_wrapper (length xs);
  directory = payload_spans 0 xs;
  kinds = replicate (length xs) 0;
  words = payloads xs;
}

-- "A store is the counted part of its buffers."
abbrev pub counted : Store → Store
counted s = record {
  objects = s.objects;
  blob_bytes = s.blob_bytes;
  used_words = s.used_words;
  blob = take s.blob_bytes s.blob;
  directory = take (2 * s.objects) s.directory;
  kinds = take s.objects s.kinds;
  words = take s.used_words s.words;
}

-- the words of each cell
abbrev pub cells : Store → List (List ℕ)
cells s = strings_from s.words s.directory 0 s.objects

-- the arrays that the cells hold
abbrev pub stored_arrays : Store → List Array
stored_arrays s = map decoded_array (cells s)

-- a test holds of every element
abbrev pub every : {A : Type 0} → (A → Bool) → List A → Bool
every f [] = true
every f (x ∷ xs) = f x && every f xs

-- the same counts and the same buffers
abbrev pub same_store : Store → Store → Bool
same_store s t =
    eqb s.objects t.objects
    && eqb s.blob_bytes t.blob_bytes
    && eqb s.used_words t.used_words
    && same s.blob t.blob
    && same s.directory t.directory
    && same s.kinds t.kinds
    && same s.words t.words

-- 33: "Is the store in written form?": each cell holds a canonical payload, and the store is the serialization of the arrays that they hold
unfoldable pub is_canonical : Store → Bool
is_canonical s = every is_canonical_payload (cells s) && same_store s (serialize (stored_arrays s))
