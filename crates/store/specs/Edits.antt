-- What append and replace answer and leave, for every store and all arguments.
-- Assumes nothing.
use Rattle.std.specs.Prelude.{ℕ, ◌+◌, ◌-◌, ◌*◌, List, [], ◌∷◌, ◌++◌, leb, length, set, replicate}
use Rattle.text.specs.Buffer.{over}
use Rattle.text.specs.Result.{Result, ok, error, map_result, check, check_output, ◌>>◌, ◌>>=◌}
use Rattle.writer.specs.Array.{Array, payload, array_of}
use Rattle.writer.specs.Spans.{length_at}
use Rattle.reader.specs.Cells.{check_directory}
use Rattle.store.specs.Store.{Store, Lengths, lengths_of, serialize, counted, stored_arrays, is_canonical}

-- 13 in an edit: "the object count if a count goes past its buffer"
unfoldable pub check_counts : Store → Result (Unit {0})
check_counts s = do
  check 13 (leb (2 * s.objects) (length s.directory)) s.objects
  check 13 (leb s.objects (length s.kinds)) s.objects
  check 13 (leb s.blob_bytes (length s.blob)) s.objects
  check 13 (leb s.used_words (length s.words)) s.objects

-- of the counted part: 13, "else the number of values if [..] above 699,044 [..]; else the first bad pair"; then 33
unfoldable pub check_counted : Store → Result (Unit {0})
check_counted s = do
  check_directory s.directory s.kinds (length s.words)
  check 33 (is_canonical s) 0

-- "13, 33", with which every edit begins
unfoldable pub check_store : Store → Result (Unit {0})
check_store s = do
  check_counts s
  check_counted (counted s)

-- 32: "the store at most 349,522 objects"
abbrev pub check_object_count : ℕ → Result (Unit {0})
check_object_count n = check 32 (leb n 349522) n

-- 34 for a store of n objects and so many words, "Sequence: blob, directory, kinds, words"
unfoldable pub check_room : Lengths → ℕ → ℕ → Result (Unit {0})
check_room l n words = do
  check_output (144 + 48 * n) l.blob
  check_output (2 * n) l.directory
  check_output n l.kinds
  check_output words l.words

-- ---- append

-- "Append: 13, 33, 30, 31, 32": all but 34, and the array that is added
unfoldable pub check_append : Store → List ℕ → List ℕ → List ℕ → Result Array
check_append s dims text spans = do
  check_store s
  a ← array_of dims text spans
  check_object_count (s.objects + 1)
  ok a

-- the arrays after an append
unfoldable pub appended : Store → List ℕ → List ℕ → List ℕ → Result (List Array)
appended s dims text spans = do
  a ← check_append s dims text spans
  check_room (lengths_of s) (s.objects + 1) (s.used_words + length (payload a))
  ok (stored_arrays (counted s) ++ a ∷ [])

-- ---- replace

-- "replace has 8 after 33, read against the directory (from 1 to its number of entries)"
unfoldable pub check_replace : Store → ℕ → List ℕ → List ℕ → List ℕ → Result Array
check_replace s id dims text spans = do
  check_store s
  check 8 (leb 1 id) id
  check 8 (leb id s.objects) id
  a ← array_of dims text spans
  check_object_count s.objects
  ok a

-- the words in use once an array takes the place of that of id
abbrev pub words_after : Store → ℕ → Array → ℕ
words_after s id a = s.used_words - length_at (counted s).directory (id - 1) + length (payload a)

-- the arrays after a replacement
unfoldable pub replaced : Store → ℕ → List ℕ → List ℕ → List ℕ → Result (List Array)
replaced s id dims text spans = do
  a ← check_replace s id dims text spans
  check_room (lengths_of s) s.objects (words_after s id a)
  ok (set (stored_arrays (counted s)) (id - 1) a)

-- ---- what an edit answers and leaves

-- accepted or refused, without the value
abbrev pub reply_of : {A : Type 0} → Result A → Result (Unit {0})
reply_of m = map_result (λ x. tt) m

-- the canonical form of arrays over the fronts of the buffers; "Words given up by a shorter replacement become 0."
abbrev pub laid : Store → List Array → Store
laid s xs = record {
  objects = length xs;
  blob_bytes = (serialize xs).blob_bytes;
  used_words = (serialize xs).used_words;
  blob = over (serialize xs).blob s.blob;
  directory = over (serialize xs).directory s.directory;
  kinds = over (serialize xs).kinds s.kinds;
  words = over ((serialize xs).words ++ replicate (s.used_words - (serialize xs).used_words) 0) s.words;
}

-- "A refusal writes to no buffer and moves no count."
abbrev pub store_after : Store → Result (List Array) → Store
store_after s (ok xs) = laid s xs
store_after s (error e) = s
