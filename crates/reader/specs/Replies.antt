-- What the calls promise of replies and output buffers.
-- Assumes nothing.
use Rattle.std.specs.Prelude.{ℕ, ◌≡◌, List, length, Result as Reply}
use Rattle.text.specs.Replies.{outcome, Writes}
use Rattle.text.specs.Result.{Result, map_result, overwritten}
use Rattle.text.specs.declared.error.MatError.{MatError}
use Rattle.text.specs.declared.utf8.LossySize.{LossySize}
use Rattle.writer.specs.Spans.{joined, spans_from}
use Rattle.reader.specs.Names.{ShownText}
use Rattle.reader.specs.Objects.{object_rows}
use Rattle.reader.specs.Queries.{into_output, into_text}
use Rattle.reader.specs.Saveobj.{into_strings}
use Rattle.reader.specs.declared.objects.ObjectRow.{ObjectRow}
use Rattle.reader.specs.declared.properties.PropertyRow.{PropertyRow}
use Rattle.reader.specs.declared.saveobj.DecodedSize.{DecodedSize}

-- the size of a text as it is shown
abbrev pub text_size_of : ShownText → LossySize
text_size_of t = record { bytes = length t.text; replaced = t.replaced }

-- a call that writes the text that a query comes to
pub record WritesText (m : Result ShownText) (text : List ℕ) (r : Reply LossySize MatError) (text' : List ℕ) : Type 0 where
  pub reply : outcome r ≡ map_result text_size_of (into_text m (length text))
  pub buffer : text' ≡ overwritten (λ t. t.text) (into_text m (length text)) text

-- a call that writes the rows that a query comes to
abbrev pub WritesRows : Result (List PropertyRow) → List PropertyRow → Reply ℕ MatError → List PropertyRow → Type 0
WritesRows m rows r rows' = Writes (into_output m) rows r rows'

-- a call that writes a row for each object
abbrev pub WritesObjects : List ℕ → List ObjectRow → Reply ℕ MatError → List ObjectRow → Type 0
WritesObjects b rows r rows' = Writes (into_output (object_rows b)) rows r rows'

-- "text bytes and number of strings"
abbrev pub size_of : List (List ℕ) → DecodedSize
size_of ss = record { bytes = length (joined ss); strings = length ss }

-- a call that writes the strings that a query comes to, as UTF-8 text end to end, and their spans
pub record DecodesStrings (m : Result (List (List ℕ))) (text spans : List ℕ) (r : Reply DecodedSize MatError) (text' spans' : List ℕ) : Type 0 where
  pub reply : outcome r ≡ map_result size_of (into_strings m (length text) (length spans))
  pub text_after : text' ≡ overwritten joined (into_strings m (length text) (length spans)) text
  pub spans_after : spans' ≡ overwritten (spans_from 0) (into_strings m (length text) (length spans)) spans
