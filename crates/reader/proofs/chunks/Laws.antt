-- The values of a chunk of names.
-- Assumes nothing.
use mathlib.Core.Path.{◌≡◌, ◌∙◌}
use mathlib.Core.Bool.{Bool, true, false, cond}
use mathlib.Core.List.{List}
use Prim.Native.Nat.{ℕ, ◌+◌, ◌-◌, ◌≤◌, ◌<◌}
use native.Mathlib.Omega.{arith}
use borrow.Author.Tests.{leb-true, ltb-true}
use lib.Dec.{leb, ltb}
use lib.ListN.{length, get_or}
use Rattle.std.proofs.lemmas.Option.{slice_get-get_or, get_or_from_slice_get}
use Rattle.text.proofs.TestLaws.{either, and_is}
use Rattle.reader.specs.Queries.{own_bytes}
use Rattle.reader.specs.Stages.Chunks.{is_in, value_in, ToNames, FillsTable}
use Rattle.reader.specs.Stages.Names.{heap_pieces}
use Rattle.reader.specs.declared.file_wrapper.Metadata.{Metadata}

-- what is known of the indices from first up to e
pub in_range {ℓ} : {P : Type ℓ} (first e i : ℕ) → (first ≤ i → i < e → is_in first e i ≡ true → P) → (is_in first e i ≡ false → P) → P
in_range first e i f g =
    either (is_in first e i)
    (λ t. let p = and_is (leb first i) (ltb i e) t in f (leb-true first i p.0) (ltb-true i e p.1) t)
    g

-- what a chunk tells of a name
pub in_chunk : {A : Type 0} {m : Metadata} {empty : A} {f : List ℕ → A} {first e : ℕ} {table : List A} {any : Bool} {next : ℕ}
    → FillsTable m empty f first e table any next
    → (i : ℕ) (other : A) → value_in table first e i other ≡ cond (is_in first e i) (f (own_bytes m.blob.now m.w i)) other
unfolding value_in
in_chunk {A} {m} {empty} {f} {first} {e} {table} k i other =
    in_range first e i
    (λ h l t. simp t (get_or_from_slice_get table (i - first) _ other (slice_get-get_or table (i - first) empty (omega (arith, k.size, k.is.size))) ∙ k.is.is i h l))
    (λ t. simp t)

-- a name that is looked at is the empty one or has its piece
pub has_piece : {m : Metadata} {x start : ℕ} → ToNames m x (x + 1) start → x ≤ length (heap_pieces m.blob.now (get_or m.w.offsets 0 0))
has_piece {m} n = omega (arith, n.few, m.opens.names)
