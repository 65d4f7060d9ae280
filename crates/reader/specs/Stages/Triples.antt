-- What is known of triples that stand one after another in a blob.
-- Assumes nothing.
use Rattle.std.specs.Prelude.{ℕ, ◌+◌, ◌*◌, ◌≤◌, ◌≡◌, List, length}
use Rattle.text.specs.Result.{ok}
use Rattle.reader.specs.Objects.{triples_from, check_triples}
use Rattle.reader.specs.declared.file_wrapper.FileWrapper.{FileWrapper}

-- n triples from byte i on lie in the blob
pub record TriplesIn (b : List ℕ) (i n : ℕ) : Type 0 where
  pub inside : i + 12 * n ≤ length b
  pub most : length b ≤ 16777216

-- they have passed their checks too
pub record PassedTriples (b : List ℕ) (w : FileWrapper) (i n : ℕ) : Type 0 where
  pub triples : TriplesIn b i n
  pub checks : check_triples w (triples_from b i n) ≡ ok tt
