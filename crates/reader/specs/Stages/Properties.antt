-- What the stages of reading the triples of an object promise each other.
-- Assumes nothing.
use Rattle.std.specs.Prelude.{ℕ, ◌≡◌, List, IfOk, Result as Reply}
use Rattle.text.specs.Replies.{outcome}
use Rattle.text.specs.Result.{Result, map_result, ◌>>◌, ◌>>=◌}
use Rattle.text.specs.declared.error.MatError.{MatError}
use Rattle.reader.specs.Objects.{triples_from, record_triples}
use Rattle.reader.specs.Opening.{opened}
use Rattle.reader.specs.Queries.{check_object, object_record}
use Rattle.reader.specs.declared.file_wrapper.Metadata.{Metadata}
use Rattle.reader.specs.declared.triples.Triples.{Triples}
use Rattle.reader.specs.declared.records.ObjectRecord.{ObjectRecord}
use Rattle.reader.specs.declared.records.Triple.{Triple}

-- the triples that are named by their first byte and number
abbrev pub named_triples : Triples → List Triple
named_triples t = triples_from t.metadata.blob.now t.at t.count

-- the triples of an object of an opened blob, by its record
pub record RecordTriples (m : Metadata) (r : ObjectRecord) (x : Reply Triples MatError) : Type 0 where
  pub reply : map_result named_triples (outcome x) ≡ record_triples m.blob.now m.w r
  pub are : IfOk x (λ t. t.metadata ≡ m)

-- the triples of an object by its id: 1–7, 8, 10, then those of each triple
unfoldable pub object_triples : List ℕ → ℕ → Result (List Triple)
object_triples b id = do
  w ← opened b
  check_object w id
  record_triples b w (object_record b w id)

-- what reading them replies
pub record ReadsTriples (b : List ℕ) (id : ℕ) (x : Reply Triples MatError) : Type 0 where
  pub reply : map_result named_triples (outcome x) ≡ object_triples b id
  pub are : IfOk x (λ t. t.metadata.blob.now ≡ b)
