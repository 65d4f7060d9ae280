-- What the stages of finding a property promise each other.
-- Assumes nothing.
use Rattle.std.specs.Prelude.{ℕ, suc, Bool, cond, ◌&&◌, List, [], ◌∷◌}
use Rattle.text.specs.Buffer.{same}
use Rattle.reader.specs.Objects.{triples_from}
use Rattle.reader.specs.Queries.{own_bytes}
use Rattle.reader.specs.Stages.Chunks.{is_in}
use Rattle.reader.specs.declared.file_wrapper.Metadata.{Metadata}
use Rattle.reader.specs.declared.records.Triple.{Triple}
use Rattle.reader.specs.declared.triples.Triples.{Triples}

-- the number of elements before the first for which a test holds
unfoldable pub first_index : {A : Type 0} → (A → Bool) → List A → ℕ
first_index p [] = 0
first_index p (x ∷ xs) = cond (p x) 0 (suc (first_index p xs))

-- the same for the first n of an object's triples, and a test of their name indices
unfoldable pub first_of : (ℕ → Bool) → Triples → ℕ → ℕ
first_of p ts n = first_index (λ (t : Triple). p t.name_idx) (triples_from ts.metadata.blob.now ts.at n)

-- a name index from first up to end whose name is stored as wanted
unfoldable pub stored_in : Metadata → List ℕ → ℕ → ℕ → ℕ → Bool
stored_in m wanted first end x = is_in first end x && same (own_bytes m.blob.now m.w x) wanted
