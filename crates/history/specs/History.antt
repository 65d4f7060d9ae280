-- A list of edits in lent buffers, and what a run of it from an empty store comes to.
-- Assumes nothing.
use Rattle.std.specs.Prelude.{ℕ, zero, suc, ◌+◌, ◌*◌, ◌/◌, min, ◌≡◌, length, get_or, take, drop, Ok, Err, Result as Reply}
use mathlib.Core.List.{List, [], ◌∷◌, flat_map}
use Rattle.text.specs.Buffer.{over}
use Rattle.text.specs.Replies.{outcome}
use Rattle.text.specs.Result.{Result, ok, error, check_output}
use Rattle.text.specs.declared.error.MatError.{MatError}
use Rattle.writer.specs.FileWrapper.{file_wrapper}
use Rattle.store.specs.Store.{Store, store_of}
use Rattle.store.specs.Edits.{reply_of}
use Rattle.store.specs.Model.{Edit, append, replace, execute, Edited}
use Rattle.store.specs.Replies.{store_with}
use Rattle.history.specs.declared.Ran.{Ran}

-- ---- the list of edits

-- len elements of a list from offset on, or as many as there are
abbrev pub part : {A : Type 0} → List A → ℕ → ℕ → List A
part list offset len = take len (drop offset list)

-- kind 0 appends, any other replaces
unfoldable pub edit_of : ℕ → ℕ → List ℕ → List ℕ → List ℕ → Edit
edit_of zero id dims text spans = append dims text spans
edit_of (suc kind) id dims text spans = replace id dims text spans

-- edit i is eight numbers: kind, object id, and offset and length of its dimensions, of its text and of its spans
unfoldable pub edit_at : List ℕ → List ℕ → List ℕ → List ℕ → ℕ → Edit
edit_at ops dims text spans i =
    edit_of (get_or ops (8 * i) 0) (get_or ops (8 * i + 1) 0)
    (part dims (get_or ops (8 * i + 2) 0) (get_or ops (8 * i + 3) 0))
    (part text (get_or ops (8 * i + 4) 0) (get_or ops (8 * i + 5) 0))
    (part spans (get_or ops (8 * i + 6) 0) (get_or ops (8 * i + 7) 0))

-- n edits from edit i on
unfoldable pub edits_from : (ℕ → Edit) → ℕ → ℕ → List Edit
edits_from edit i zero = []
edits_from edit i (suc n) = edit i ∷ edits_from edit (suc i) n

-- as many edits as ops holds, and as there is room for replies
abbrev pub edits_in : List ℕ → List ℕ → List ℕ → List ℕ → ℕ → List Edit
edits_in ops dims text spans room = edits_from (edit_at ops dims text spans) 0 (min (length ops / 8) (room / 2))

-- ---- the replies

-- the number of the check and its place, 0 and 0 for none
abbrev pub numbers_of : Result (Unit {0}) → List ℕ
numbers_of (ok t) = 0 ∷ 0 ∷ []
numbers_of (error e) = e.number ∷ e.place ∷ []

-- two numbers for each reply, one after another
abbrev pub numbers : List (Result (Unit {0})) → List ℕ
numbers rs = flat_map numbers_of rs

-- ---- a run

-- the store of no arrays: its blob over the front of the lent one
abbrev pub empty_store : List ℕ → List ℕ → List ℕ → List ℕ → Store
empty_store blob directory kinds words = store_of 0 144 0 (over (file_wrapper 0) blob) directory kinds words

-- the edits es, run on the store s: the counts and the whole buffers that are left, the replies over the front of their buffer, and the claim of
-- demand 3 about that store and those replies
pub record Ends (s : Store) (es : List Edit) (replies : List ℕ) (r : Ran) (blob' directory' kinds' words' replies' : List ℕ) : Type 0 where
  pub left : store_with r.counts blob' directory' kinds' words' ≡ (execute s es).last
  pub told : replies' ≡ over (numbers (execute s es).replies) replies
  pub count : r.edits ≡ length es
  pub claim : Edited s es (execute s es).last (execute s es).replies

-- a run whose empty store does not fit: every buffer is kept
pub record Keeps (blob directory kinds words replies blob' directory' kinds' words' replies' : List ℕ) : Type 0 where
  pub same_blob : blob' ≡ blob
  pub same_directory : directory' ≡ directory
  pub same_kinds : kinds' ≡ kinds
  pub same_words : words' ≡ words
  pub same_replies : replies' ≡ replies

-- what a run leaves, by its reply
abbrev pub Leaves : List ℕ → List ℕ → List ℕ → List ℕ → List Edit → List ℕ → Reply Ran MatError → List ℕ → List ℕ → List ℕ → List ℕ → List ℕ → Type 0
Leaves blob directory kinds words es replies (Ok r) blob' directory' kinds' words' replies' =
    Ends (empty_store blob directory kinds words) es replies r blob' directory' kinds' words' replies'
Leaves blob directory kinds words es replies (Err e) blob' directory' kinds' words' replies' =
    Keeps blob directory kinds words replies blob' directory' kinds' words' replies'

-- a run in lent buffers: 34 for the blob of the empty store, then the claim for the empty store, or nothing written
pub record Runs (blob directory kinds words : List ℕ) (es : List Edit) (replies : List ℕ) (r : Reply Ran MatError) (blob' directory' kinds' words' replies' : List ℕ) : Type 0 where
  pub reply : reply_of (outcome r) ≡ check_output 144 (length blob)
  pub leaves : Leaves blob directory kinds words es replies r blob' directory' kinds' words' replies'
