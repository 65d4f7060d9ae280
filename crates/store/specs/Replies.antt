-- What the replies of the edits say, and what the edits promise of replies, counts and buffers.
-- Assumes nothing.
use Rattle.std.specs.Prelude.{ℕ, ◌≡◌, List, Result as Reply}
use Rattle.text.specs.Replies.{outcome}
use Rattle.text.specs.Result.{Result}
use Rattle.text.specs.declared.error.MatError.{MatError}
use Rattle.writer.specs.Array.{Array}
use Rattle.store.specs.declared.array.StringArray.{StringArray}
use Rattle.store.specs.declared.counts.Counts.{Counts}
use Rattle.store.specs.declared.edits.Edit.{Edit as Kind}
use Rattle.store.specs.declared.edits.Edit.TheVariants as kind
use Rattle.store.specs.Store.{Store, store_of}
use Rattle.store.specs.Edits.{reply_of, store_after}
use Rattle.store.specs.Model.{Edit, append, replace}

-- a store by its counts and buffers
abbrev pub store_with : Counts → List ℕ → List ℕ → List ℕ → List ℕ → Store
store_with c blob directory kinds words = store_of c.objects c.blob_bytes c.words blob directory kinds words

-- an edit by its kind and what is lent for its array: dimensions, text, spans
abbrev pub edit_of : Kind → List ℕ → List ℕ → List ℕ → Edit
edit_of kind.Append dims text spans = append dims text spans
edit_of (kind.Replace id) dims text spans = replace id dims text spans

abbrev pub edit_in : Kind → StringArray → Edit
edit_in k a = edit_of k a.dims.now a.text.now a.spans.now

-- an edit of the store s that comes to m: its reply, and the store that it leaves
pub record Edits {A : Type 0} (s : Store) (m : Result (List Array)) (r : Reply A MatError) (s' : Store) : Type 0 where
  pub reply : reply_of (outcome r) ≡ reply_of m
  pub store : s' ≡ store_after s m
