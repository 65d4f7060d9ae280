-- What the stages that look at names a chunk at a time promise each other.
-- Assumes nothing.
use Rattle.std.specs.Prelude.{ℕ, ◌-◌, ◌+◌, ◌≤◌, ◌<◌, ◌≡◌, Bool, cond, ◌&&◌, false, List, leb, ltb, get_or, length}
use Rattle.reader.specs.Queries.{own_bytes}
use Rattle.reader.specs.Stages.Names.{PieceBegins}
use Rattle.reader.specs.declared.chunks.Looked.{Looked}
use Rattle.reader.specs.declared.file_wrapper.Metadata.{Metadata}

-- x is one of first up to, not including, end
abbrev pub is_in : ℕ → ℕ → ℕ → Bool
is_in first end x = leb first x && ltb x end

-- the value of a name from first up to end by a table, another for the others
unfoldable pub value_in : {A : Type 0} → List A → ℕ → ℕ → ℕ → A → A
value_in table first end x other = cond (is_in first end x) (get_or table (x - first) other) other

-- names first up to end are declared, no more than a chunk has, and the first of them begins at start
pub record ToNames (m : Metadata) (first end start : ℕ) : Type 0 where
  pub order : first ≤ end
  pub size : end ≤ first + 4096
  pub few : end ≤ m.w.names + 1
  pub heap : PieceBegins m.blob.now (get_or m.w.offsets 0 0) first start

-- what f gives for name x, whether that is not empty, and where the next name begins
pub record Looks {A : Type 0} (m : Metadata) (empty : A) (f : List ℕ → A) (x : ℕ) (l : Looked A) : Type 0 where
  pub is : l.value ≡ f (own_bytes m.blob.now m.w x)
  pub none : l.any ≡ false → l.value ≡ empty
  pub heap : PieceBegins m.blob.now (get_or m.w.offsets 0 0) (x + 1) l.next

-- a table of what f gives for each name first up to end, whether one of these is not empty, and where name end begins
pub record Tabulates {A : Type 0} (m : Metadata) (empty : A) (f : List ℕ → A) (first end : ℕ) (table : List A) (any : Bool) (next : ℕ) : Type 0 where
  pub order : first ≤ end
  pub size : length table ≡ 4096
  pub is : (i : ℕ) → first ≤ i → i < end → get_or table (i - first) empty ≡ f (own_bytes m.blob.now m.w i)
  pub none : any ≡ false → (i : ℕ) → first ≤ i → i < end → f (own_bytes m.blob.now m.w i) ≡ empty
  pub heap : PieceBegins m.blob.now (get_or m.w.offsets 0 0) end next

-- the same for a whole chunk
pub record FillsTable {A : Type 0} (m : Metadata) (empty : A) (f : List ℕ → A) (first end : ℕ) (table : List A) (any : Bool) (next : ℕ) : Type 0 where
  pub more : first < end
  pub size : end ≤ first + 4096
  pub few : end ≤ m.w.names + 1
  pub is : Tabulates m empty f first end table any next
