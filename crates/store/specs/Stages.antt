-- What the private stages of the edits promise each other.
-- Assumes nothing.
use Rattle.std.specs.Prelude.{ℕ, zero, suc, ◌+◌, ◌-◌, ◌*◌, ◌≤◌, ◌<◌, ◌≡◌, Bool, ◌&&◌, List, [], ◌∷◌, ◌++◌, eqb, leb, length, set, replicate, Option, Some, None, Ok, Err, Result as Reply}
use Rattle.text.specs.Buffer.{put, over}
use Rattle.text.specs.Errors.{failure_of}
use Rattle.text.specs.Result.{Result, ok, error, check, ◌>>◌}
use Rattle.text.specs.declared.error.MatError.{MatError}
use Rattle.text.specs.declared.error.MatError.TheVariants.{InvalidDirectory}
use Rattle.writer.specs.Array.{Array, payload, array_of}
use Rattle.writer.specs.Spans.{offset_at, length_at, end_at, string_at}
use Rattle.writer.specs.Stages.Payload.{array_in}
use Rattle.reader.specs.Saveobj.{is_canonical_payload}
use Rattle.store.specs.declared.array.StringArray.{StringArray}
use Rattle.store.specs.declared.canonical.StoreRef.{StoreRef}
use Rattle.store.specs.declared.checks.Accepted.{Accepted}
use Rattle.store.specs.declared.counts.Counts.{Counts}
use Rattle.store.specs.declared.edits.Edit.{Edit as Kind}
use Rattle.store.specs.declared.edits.Edit.TheVariants as kind
use Rattle.store.specs.Store.{Store, serialize, counted, stored_arrays}
use Rattle.store.specs.Moves.{spliced, Shiftable}
use Rattle.store.specs.Edits.{check_counts, check_store}
use Rattle.store.specs.Model.{call}
use Rattle.store.specs.Replies.{store_with, edit_in}

-- a store that is only read
abbrev pub store_in : StoreRef → Store
store_in s = store_with s.counts s.blob.now s.directory.now s.kinds.now s.words.now

-- an array that is lent
abbrev pub array_lent : StringArray → Array
array_lent a = array_in a.dims.now a.text.now a.spans.now

-- ---- 13 and 33

-- a directory of n pairs, each ending within so many words
pub record CellsInside (directory : List ℕ) (words n : ℕ) : Type 0 where
  pub pairs : length directory ≡ 2 * n
  pub inside : (i : ℕ) → i < n → end_at directory i ≤ words

-- the n cells from cell i on: each begins where the one before ended, the first at `at`, and holds a canonical payload; the last ends with the words
unfoldable pub cells_walk : List ℕ → List ℕ → ℕ → ℕ → ℕ → Bool
cells_walk directory words i zero at = eqb at (length words)
cells_walk directory words i (suc n) at =
    eqb (offset_at directory i) at
    && (is_canonical_payload (string_at words directory i) && cells_walk directory words (suc i) n (at + length_at directory i))

-- a store cut to its counts
pub record IsCut (s : Store) : Type 0 where
  pub blob : length s.blob ≡ s.blob_bytes
  pub pairs : length s.directory ≡ 2 * s.objects
  pub kinds : length s.kinds ≡ s.objects
  pub words : length s.words ≡ s.used_words

-- of which 13 holds
pub record CutChecked (s : Store) : Type 0 where
  pub cut : IsCut s
  pub few : s.objects ≤ 349522
  pub cells : CellsInside s.directory (length s.words) s.objects

-- the counted part of a store where no count goes past its buffer
pub record Cut (s t : Store) : Type 0 where
  pub inside : check_counts s ≡ ok tt
  pub is : t ≡ counted s
  pub cut : IsCut t

-- the counted part, or none where a count goes past its buffer
abbrev pub CutTo : Store → Option StoreRef → Type 0
CutTo s (Some r) = Cut s (store_in r)
CutTo s None = check_counts s ≡ error (failure_of (InvalidDirectory s.objects))

-- ---- the checks of an edit

-- 13 and 33 hold of a store
pub record StoreChecked (s : Store) : Type 0 where
  pub is : check_store s ≡ ok tt
  pub canonical : counted s ≡ serialize (stored_arrays (counted s))
  pub few : s.objects ≤ 349522
  pub blob_inside : s.blob_bytes ≤ length s.blob
  pub directory_inside : 2 * s.objects ≤ length s.directory
  pub kinds_inside : s.objects ≤ length s.kinds
  pub words_inside : s.used_words ≤ length s.words

-- an array passed 30, 31 and 32, with a payload of so many words
pub record ArrayChecked (a : StringArray) (words : ℕ) : Type 0 where
  pub is : array_of a.dims.now a.text.now a.spans.now ≡ ok (array_lent a)
  pub long : words ≡ length (payload (array_lent a))
  pub most : words ≤ 2097152

-- 8 of an edit of a store of n objects
abbrev pub check_id : ℕ → Kind → Result (Unit {0})
check_id n kind.Append = ok tt
check_id n (kind.Replace id) = check 8 (leb 1 id) id >> check 8 (leb id n) id

-- which holds
abbrev pub IdInside : ℕ → Kind → Type 0
IdInside n kind.Append = Unit {0}
IdInside n (kind.Replace id) = (1 ≤ id) × (id ≤ n)

-- all checks but 32 of the objects and 34 passed
pub record EditMeasured (s : Store) (k : Kind) (a : StringArray) (words : ℕ) : Type 0 where
  pub store : StoreChecked s
  pub id : IdInside s.objects k
  pub array : ArrayChecked a words

-- how many objects there are after an edit
abbrev pub objects_after : ℕ → Kind → ℕ
objects_after n kind.Append = n + 1
objects_after n (kind.Replace id) = n

-- how many words there are after an edit with a payload of so many
abbrev pub words_with : Store → Kind → ℕ → ℕ
words_with s kind.Append words = s.used_words + words
words_with s (kind.Replace id) words = s.used_words - length_at s.directory (id - 1) + words

-- the counts of a store of so many objects and words
abbrev pub counts_of : ℕ → ℕ → Counts
counts_of objects words = record { objects = objects; blob_bytes = 144 + 48 * objects; words = words }

-- the counts after an edit with a payload of so many words
abbrev pub counts_after : Store → Kind → ℕ → Counts
counts_after s k words = counts_of (objects_after s.objects k) (words_with s k words)

-- the arrays after an edit
abbrev pub arrays_after : List Array → Kind → Array → List Array
arrays_after xs kind.Append a = xs ++ a ∷ []
arrays_after xs (kind.Replace id) a = set xs (id - 1) a

-- all checks of an edit passed; it has a payload of so many words, and leaves the counts c
pub record Passes (s : Store) (k : Kind) (a : StringArray) (words : ℕ) (c : Counts) : Type 0 where
  pub measured : EditMeasured s k a words
  pub counts : c ≡ counts_after s k words
  pub answer : call s (edit_in k a) ≡ ok (arrays_after (stored_arrays (counted s)) k (array_lent a))
  pub few : c.objects ≤ 349522
  pub blob_fits : c.blob_bytes ≤ length s.blob
  pub directory_fits : 2 * c.objects ≤ length s.directory
  pub kinds_fits : c.objects ≤ length s.kinds
  pub words_fit : c.words ≤ length s.words

-- what the checks find: the edit passes, or the refusal
abbrev pub Decides : Store → Kind → StringArray → Reply Accepted MatError → Type 0
Decides s k a (Ok x) = Passes s k a x.len x.counts
Decides s k a (Err e) = call s (edit_in k a) ≡ error (failure_of e)

-- ---- writing

-- an array passed its checks, and its payload fits from word start on
pub record ArrayFits (a : StringArray) (start room : ℕ) : Type 0 where
  pub passed : array_of a.dims.now a.text.now a.spans.now ≡ ok (array_lent a)
  pub fits : start + length (payload (array_lent a)) ≤ room

-- there is room for pair n and kind n
pub record EntryFits (n directory kinds : ℕ) : Type 0 where
  pub pair : 2 * n + 2 ≤ directory
  pub kind : n < kinds

-- they are written, with kind 0
pub record PutsEntry (n offset len : ℕ) (directory kinds directory' kinds' : List ℕ) : Type 0 where
  pub pair : directory' ≡ put directory (2 * n) (offset ∷ len ∷ [])
  pub kind : kinds' ≡ put kinds n (0 ∷ [])

-- an array passed its checks, and its payload of len words fits in place of the `old` words from `at` on, of those in use
pub record WordsFit (used at old len room : ℕ) (a : StringArray) : Type 0 where
  pub array : ArrayChecked a len
  pub inside : at + old ≤ used
  pub counted : used ≤ room
  pub fits : used - old + len ≤ room

-- it is written there, the words after it follow, and the words given up are 0
pub record ReplacesWords (used at old : ℕ) (words : List ℕ) (a : StringArray) (words' : List ℕ) : Type 0 where
  pub is :
      words'
      ≡ over
      (spliced words used at old (payload (array_lent a)) ++ replicate (used - length (spliced words used at old (payload (array_lent a)))) 0)
      words

-- pair k is there, and the offsets of the pairs after it, up to n, can be shifted
pub record PairFits (directory : List ℕ) (n k old len : ℕ) : Type 0 where
  pub inside : 2 * k + 2 ≤ length directory
  pub after : Shiftable (set directory (2 * k + 1) len) (k + 1) n old len
