-- What the private stages of a run promise each other.
-- Assumes nothing.
use Rattle.std.specs.Prelude.{ℕ, ◌*◌, ◌≡◌, List, []}
use Rattle.text.specs.Buffer.{put}
use Rattle.store.specs.Store.{Store, serialize, counted}
use Rattle.store.specs.Edits.{reply_of, store_after}
use Rattle.store.specs.Model.{Edit, call}
use Rattle.store.specs.Replies.{store_with}
use Rattle.history.specs.History.{numbers_of}
use Rattle.history.specs.declared.StoreMut.{StoreMut}

-- the counted part of the store is the written form of no arrays
pub record IsEmpty (s : Store) : Type 0 where
  pub is : counted s ≡ serialize []

-- edit e, number i of a list, on the store s: the store that it leaves, and its reply in its place
pub record RunsEdit (s : Store) (e : Edit) (replies : List ℕ) (i : ℕ) (s' : Store) (replies' : List ℕ) : Type 0 where
  pub left : s' ≡ store_after s (call s e)
  pub told : replies' ≡ put replies (2 * i) (numbers_of (reply_of (call s e)))

-- the store in lent buffers
abbrev pub store_in : StoreMut → Store
store_in s = store_with s.counts s.blob.now s.directory.now s.kinds.now s.words.now

-- the buffers that are lent are the same
pub record KeepsBuffers (s s' : StoreMut) : Type 0 where
  pub blob : s'.blob.ghost_name ≡ s.blob.ghost_name
  pub directory : s'.directory.ghost_name ≡ s.directory.ghost_name
  pub kinds : s'.kinds.ghost_name ≡ s.kinds.ghost_name
  pub words : s'.words.ghost_name ≡ s.words.ghost_name
