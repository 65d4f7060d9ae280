-- What the stages that find a name promise each other.
-- Assumes nothing.
use Rattle.std.specs.Prelude.{ℕ, ◌-◌, ◌≤◌, ◌≡◌, cond, List, [], ◌++◌, leb, eqb, length, take, drop}
use Rattle.std.proofs.Math.Seq.{slice}
use Rattle.std.specs.List.{count_by}
use Rattle.text.specs.Buffer.{same}
use Rattle.text.specs.Utf8.{before_zero, lossy}
use Rattle.reader.specs.Names.{pieces, shown_bytes}
use Rattle.reader.specs.declared.names.Compared.{Compared}
use Rattle.text.specs.declared.utf8.LossySize.{LossySize}

-- the pieces from byte i up to end, none past it
unfoldable pub pieces_from : List ℕ → ℕ → ℕ → List (List ℕ)
pieces_from b end i = cond (leb i end) (pieces (slice i end b)) []

-- how many bytes are zero
abbrev pub zeros : List ℕ → ℕ
zeros s = count_by (λ x. eqb x 0) s

-- n zero bytes were passed, no more than most, and rest is what stands after them
pub record Skips (s : List ℕ) (most n : ℕ) (rest : List ℕ) : Type 0 where
  pub few : n ≤ most
  pub passed : List ℕ
  pub counted : n ≡ zeros passed
  pub is : s ≡ passed ++ rest

-- the pieces of the heap up to end; none where it would end before byte 40, as in a blob of length 0
abbrev pub heap_pieces : List ℕ → ℕ → List (List ℕ)
heap_pieces b end = pieces_from b end 40

-- a heap has piece index, from 1
pub record HasPiece (heap : List ℕ) (index : ℕ) : Type 0 where
  pub least : 1 ≤ index
  pub most : index ≤ length (pieces heap)

-- none of the first i bytes of s is zero
pub record Running (s : List ℕ) (i : ℕ) : Type 0 where
  pub inside : i ≤ length s
  pub is : before_zero s ≡ take i s ++ before_zero (drop i s)

-- the first piece of s ends at n: its bytes are those before the first zero byte
pub record FirstPiece (s : List ℕ) (n : ℕ) : Type 0 where
  pub inside : n ≤ length s
  pub is : before_zero s ≡ take n s

-- where the first piece of s ends, and whether its bytes are wanted
pub record ComparesPiece (s wanted : List ℕ) (c : Compared) : Type 0 where
  pub piece : FirstPiece s c.end
  pub is : c.equal ≡ same (before_zero s) wanted

-- name index is the empty name or a piece of the heap
pub record HasName (b : List ℕ) (end index : ℕ) : Type 0 where
  pub inside : end ≤ length b
  pub most : index ≤ length (heap_pieces b end)

-- piece x, where there is one, begins at start; for the empty name, 0, piece 1
pub record PieceBegins (b : List ℕ) (end x start : ℕ) : Type 0 where
  pub rest : pieces_from b end start ≡ drop (x - 1) (heap_pieces b end)

-- the size of bytes as they are shown, whose numbers are small enough for any sum of two
pub record IsSize (s : List ℕ) (n : LossySize) : Type 0 where
  pub bytes : n.bytes ≡ length (lossy s)
  pub most : n.bytes ≤ 50331648
  pub replaced : n.replaced ≡ (shown_bytes s).replaced
  pub few : n.replaced ≤ 16777216
