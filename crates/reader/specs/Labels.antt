-- A name, or a placeholder for an empty one, as a part of a lent buffer (document 02, P1).
-- Assumes nothing.
use Rattle.std.specs.Prelude.{ℕ, ◌+◌, ◌≡◌, cond, List, eqb, length, take, drop, get_or, codes}
use Rattle.std.specs.Borrow.{Bor}
use Rattle.text.specs.Result.{Result, ok, error, or_error, ◌>>◌, ◌>>=◌}
use Rattle.text.specs.Utf8.{scalars8}
use Rattle.reader.specs.Names.{name_start}
use Rattle.reader.specs.Opening.{opened}
use Rattle.reader.specs.Queries.{check_name, own_bytes}
use Rattle.reader.specs.declared.file_wrapper.FileWrapper.{FileWrapper}
use Rattle.reader.specs.declared.labels.Part.{Part}
use Rattle.reader.specs.declared.labels.Source.{Source}
use Rattle.reader.specs.declared.labels.Source.TheVariants as source

-- the placeholder's first n bytes
abbrev pub placeholder_part : ℕ → Part
placeholder_part n = record { source = source.Placeholder; start = 0; length = n }

-- "a part of the blob holding the name's own bytes, or the placeholder where the name is empty, whether by index 0 or as a stored piece":
-- which buffer, first byte and length
abbrev pub name_part : List ℕ → List ℕ → FileWrapper → ℕ → Part
name_part b placeholder w i =
    cond (eqb (length (own_bytes b w i)) 0) (placeholder_part (length placeholder))
    (record { source = source.Blob; start = name_start b (get_or w.offsets 0 0) i; length = length (own_bytes b w i) })

-- 35: "is the name well-formed? Place: index." A text that is not has no scalar values.
abbrev pub check_well_formed : List ℕ → ℕ → Result (List ℕ)
check_well_formed name i = or_error (record { number = 35; place = i }) (scalars8 name)

-- 1–7, 11, 35, and then the part
unfoldable pub label_of : List ℕ → List ℕ → ℕ → Result Part
label_of b placeholder i = do
  w ← opened b
  check_name w i
  check_well_formed (own_bytes b w i) i
  ok (name_part b placeholder w i)

-- "A refusal's part is the placeholder's first 0 bytes."
abbrev pub part_of : Result Part → Part
part_of (ok p) = p
part_of (error e) = placeholder_part 0

-- "which buffer the part belongs to"
abbrev pub buffer_of : {A : Type 0} → Source → A → A → A
buffer_of source.Blob blob placeholder = blob
buffer_of source.Placeholder blob placeholder = placeholder

-- "No copy is made": r lies in the block of memory of s, a bytes after its start, and holds n bytes of it
pub record IsPart (a n : ℕ) (s r : Bor (List ℕ)) : Type 0 where
  pub block : r.ref_ptr.0 ≡ s.ref_ptr.0
  pub byte : r.ref_ptr.1 ≡ a + s.ref_ptr.1
  pub is : r.now ≡ take n (drop a s.now)

-- r is the label's part of its buffer
abbrev pub IsLabel : Bor (List ℕ) → Bor (List ℕ) → ℕ → Bor (List ℕ) → Type 0
IsLabel blob placeholder i r =
    let p = part_of (label_of blob.now placeholder.now i) in
    IsPart p.start p.length (buffer_of p.source blob placeholder) r

-- a buffer as it is printed
abbrev pub source_text : Source → List ℕ
source_text source.Blob = codes "blob"
source_text source.Placeholder = codes "placeholder"
