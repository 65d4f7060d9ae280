-- What the replies of the code say, and what the calls promise of replies and output buffers.
-- Assumes nothing.
use Rattle.std.specs.Prelude.{ℕ, List, length, Result as Reply}
use Rattle.text.specs.Replies.{Writes}
use Rattle.text.specs.Result.{Result, map_result}
use Rattle.text.specs.declared.error.MatError.{MatError}
use Rattle.writer.specs.Array.{payload, array_of, encode_payload}
use Rattle.writer.specs.FileWrapper.{build_metadata}

-- the words of a payload, or the refusal: 30, 31, 32
abbrev pub measured_payload : List ℕ → List ℕ → List ℕ → Result ℕ
measured_payload dims text spans = map_result (λ a. length (payload a)) (array_of dims text spans)

-- a call that writes the payload of an array to the start of words
abbrev pub EncodesPayload : List ℕ → List ℕ → List ℕ → List ℕ → Reply ℕ MatError → List ℕ → Type 0
EncodesPayload dims text spans words r words' = Writes (encode_payload dims text spans) words r words'

-- a call that writes the blob for n objects to the start of blob
abbrev pub BuildsMetadata : ℕ → List ℕ → Reply ℕ MatError → List ℕ → Type 0
BuildsMetadata n blob r blob' = Writes (build_metadata n) blob r blob'
