-- What the calls for C promise of the answer's number, of the cells of the values and of the place, and of output buffers.
-- Assumes nothing.
use Rattle.std.specs.Option.{unwrap_or}
use Rattle.std.specs.Prelude.{ℕ, ◌≡◌, List, [], ◌∷◌, length, get_or}
use Rattle.std.specs.Prelude.{Option, Some, None}
use Rattle.text.specs.Result.{Result, ok, error, overwritten}
use Rattle.writer.specs.Array.{Array}
use Rattle.writer.specs.Spans.{joined, spans_from}
use Rattle.reader.specs.Names.{ShownText, shown_bytes}
use Rattle.reader.specs.Queries.{into_text}
use Rattle.text.specs.declared.utf8.LossySize.{LossySize}
use Rattle.reader.specs.Replies.{size_of, text_size_of}
use Rattle.reader.specs.declared.saveobj.DecodedSize.{DecodedSize}
use Rattle.reader.specs.declared.file_wrapper.FileWrapper.{FileWrapper}
use Rattle.reader.specs.declared.labels.Part.{Part}
use Rattle.reader.specs.declared.labels.Source.{Source}
use Rattle.reader.specs.declared.labels.Source.TheVariants as source
use Rattle.reader.specs.declared.opaque.OpaqueMetadata.{OpaqueMetadata}
use Rattle.store.specs.Edits.{store_after}
use Rattle.store.specs.Store.{Store}
use Rattle.mcos.specs.declared.cells.McosFileWrapper.{McosFileWrapper}
use Rattle.mcos.specs.declared.cells.McosPart.{McosPart}

-- 0, or the number of the check that does not hold
abbrev pub number_of : {A : Type 0} → Result A → ℕ
number_of (ok a) = 0
number_of (error e) = e.number

-- the cell of the place after a call: kept, or the failure's place
abbrev pub place_after : {A : Type 0} → Result A → ℕ → ℕ
place_after (ok a) old = old
place_after (error e) old = e.place

-- the cell of a value after a call: the value as f gives it, or kept
abbrev pub value_after : {A B : Type 0} → (A → B) → Result A → B → B
value_after f (ok a) old = f a
value_after f (error e) old = old

-- a call that comes to m, with one value; r is its answer
pub record Exports {A B : Type 0} (f : A → B) (m : Result A) (value : B) (place r : ℕ) (value' : B) (place' : ℕ) : Type 0 where
  pub number : r ≡ number_of m
  pub value_after_lem : value' ≡ value_after f m value
  pub place_after_lem : place' ≡ place_after m place

-- a call that writes a list, as f gives it, into an output buffer, with its length; it comes to m of the buffer's length
pub record ExportsList {A B : Type 0} (f : List A → List B) (m : ℕ → Result (List A)) (out : List B) (count place r : ℕ) (out' : List B) (count' place' : ℕ) : Type 0 where
  pub exports : Exports length (m (length out)) count place r count' place'
  pub buffer : out' ≡ overwritten f (m (length out)) out

-- the cells of a text's bytes and of the replacement characters in it, together
abbrev pub text_cells : ℕ → ℕ → LossySize
text_cells bytes replaced = record { bytes = bytes; replaced = replaced }

-- a text as it is shown, with its cells; the call comes to m of the buffer's length
pub record ExportsText (m : ℕ → Result ShownText) (out : List ℕ) (cells : LossySize) (place r : ℕ) (out' : List ℕ) (cells' : LossySize) (place' : ℕ) : Type 0 where
  pub exports : Exports text_size_of (m (length out)) cells place r cells' place'
  pub buffer : out' ≡ overwritten (λ t. t.text) (m (length out)) out

-- the repaired text of s, with the number of replaced parts
abbrev pub ExportsLossy : List ℕ → List ℕ → ℕ → ℕ → ℕ → ℕ → List ℕ → ℕ → ℕ → ℕ → Type 0
ExportsLossy s out bytes replaced place r out' bytes' replaced' place' =
    ExportsText (into_text (ok (shown_bytes s))) out (text_cells bytes replaced) place r out' (text_cells bytes' replaced') place'

-- the cells of text bytes and number of strings, together
abbrev pub count_cells : ℕ → ℕ → DecodedSize
count_cells bytes strings = record { bytes = bytes; strings = strings }

-- strings as text, end to end, and their spans, with their counts
pub record ExportsStrings (m : ℕ → ℕ → Result (List (List ℕ))) (text spans : List ℕ) (cells : DecodedSize) (place r : ℕ) (text' spans' : List ℕ) (cells' : DecodedSize) (place' : ℕ) : Type 0 where
  pub exports : Exports size_of (m (length text) (length spans)) cells place r cells' place'
  pub text_after : text' ≡ overwritten joined (m (length text) (length spans)) text
  pub spans_after : spans' ≡ overwritten (spans_from 0) (m (length text) (length spans)) spans

-- the numbers of an opened blob, as C reads them
abbrev pub file_wrapper_cells : FileWrapper → McosFileWrapper
file_wrapper_cells w = record {
  names = w.names;
  classes = w.classes;
  records = w.records;
  saveobj_blocks = w.saveobj_blocks;
  normalobj_blocks = w.normalobj_blocks;
  offsets = get_or w.offsets 0 0 ∷ get_or w.offsets 1 0 ∷ get_or w.offsets 2 0 ∷ get_or w.offsets 3 0 ∷ get_or w.offsets 4 0 ∷ get_or w.offsets 5 0 ∷ get_or w.offsets 6 0 ∷ get_or w.offsets 7 0 ∷ [];
}

-- "which buffer the part belongs to": 0 the blob, 1 the placeholder
abbrev pub source_cell : Source → ℕ
source_cell source.Blob = 0
source_cell source.Placeholder = 1

-- the numbers of a label's part: buffer, first byte, length
abbrev pub part_cells : Part → McosPart
part_cells p = record { source = source_cell p.source; start = p.start; length = p.length }

-- 1 where there is a position, else 0
abbrev pub found_of : Option ℕ → ℕ
found_of (Some i) = 1
found_of None = 0

-- whether there is a position, and the position: its cell is written only where there is one
pub record ExportsFound (m : Result (Option ℕ)) (found position place r found' position' place' : ℕ) : Type 0 where
  pub exports : Exports found_of m found place r found' place'
  pub position_after : position' ≡ value_after (λ p. unwrap_or p position) m position

-- the cells of the first id's position, the number of ids and the class id, together
abbrev pub opaque_cells : ℕ → ℕ → ℕ → OpaqueMetadata
opaque_cells first ids class = record { first_id = first; ids = ids; class_id = class }

-- an edit of the store s that comes to m and leaves the store s'
pub record ExportsEdit (s : Store) (m : Result (List Array)) (place r : ℕ) (s' : Store) (place' : ℕ) : Type 0 where
  pub number : r ≡ number_of m
  pub store_after_lem : s' ≡ store_after s m
  pub place_after_lem : place' ≡ place_after m place
