-- The name heap.
-- Assumes nothing.
use Rattle.std.specs.Prelude.{ℕ, ◌-◌, ◌+◌, cond, List, [], ◌∷◌, eqb, get_or, length, take}
use Rattle.std.proofs.Math.Seq.{slice}
use Rattle.text.specs.Utf8.{lossy, parts_from, replaced_in}

-- one byte before the first piece
abbrev pub onto : ℕ → List (List ℕ) → List (List ℕ)
onto x [] = (x ∷ []) ∷ []
onto x (p ∷ ps) = (x ∷ p) ∷ ps

-- "cut at zero bytes: k zeros give k + 1 pieces"
unfoldable pub pieces : List ℕ → List (List ℕ)
pieces [] = [] ∷ []
pieces (x ∷ xs) = cond (eqb x 0) ([] ∷ pieces xs) (onto x (pieces xs))

-- "The name heap is bytes 40 to offset 0"
abbrev pub heap_of : List ℕ → ℕ → List ℕ
heap_of b end = slice 40 end b

-- "Index 0 is the empty name, index i is piece i"
unfoldable pub name_bytes : List ℕ → ℕ → ℕ → List ℕ
name_bytes b end i = cond (eqb i 0) [] (get_or (pieces (heap_of b end)) (i - 1) [])

-- the length of pieces, each with the zero byte after it
unfoldable pub length_with_zeros : List (List ℕ) → ℕ
length_with_zeros [] = 0
length_with_zeros (p ∷ ps) = length p + 1 + length_with_zeros ps

-- where piece i, from 1, begins in the blob: after the pieces before it
abbrev pub name_start : List ℕ → ℕ → ℕ → ℕ
name_start b end i = 40 + length_with_zeros (take (i - 1) (pieces (heap_of b end)))

-- a text as it is shown, and "how many replacement characters were put in for ill-formed parts" (document 02, P5)
pub record ShownText : Type 0 where
  pub text : List ℕ
  pub replaced : ℕ

-- bytes as they are shown: "each maximal ill-formed part becomes EF BF BD", and "A genuine U+FFFD in the file isn't counted."
abbrev pub shown_bytes : List ℕ → ShownText
shown_bytes s = record { text = lossy s; replaced = replaced_in (parts_from s 0) }

-- a text in which nothing was replaced
abbrev pub sound_text : List ℕ → ShownText
sound_text s = record { text = s; replaced = 0 }

-- the name as it is shown
abbrev pub shown_name : List ℕ → ℕ → ℕ → ShownText
shown_name b end i = shown_bytes (name_bytes b end i)
