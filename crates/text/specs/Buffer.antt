-- Lists of bytes: whether two are the same, and one written into another, at its front or from an index on.
-- Assumes nothing.
use Rattle.std.specs.Prelude.{ℕ, ◌+◌, ◌≡◌, Bool, true, false, cond, ◌&&◌, List, [], ◌∷◌, ◌++◌, leb, eqb, length, take, drop}

-- the same bytes
unfoldable pub same : List ℕ → List ℕ → Bool
same [] [] = true
same [] (y ∷ ys) = false
same (x ∷ xs) [] = false
same (x ∷ xs) (y ∷ ys) = eqb x y && same xs ys

-- a list over the front of a buffer, the rest kept
abbrev pub over : {A : Type 0} → List A → List A → List A
over new old = new ++ drop (length new) old

-- d with w from index i on
unfoldable pub put : {A : Type 0} → List A → ℕ → List A → List A
put d i w = take i d ++ w ++ drop (i + length w) d

-- what a function that writes w at i, where it fits, returns and leaves
pub record Puts {A : Type 0} (d : List A) (i : ℕ) (w : List A) (next : ℕ) (d' : List A) : Type 0 where
  pub end : next ≡ i + length w
  pub buffer : d' ≡ put d i w

-- d with w from index i on where w fits, and else d
unfoldable pub placed : {A : Type 0} → List A → ℕ → List A → List A
placed d i w = cond (leb (i + length w) (length d)) (put d i w) d

-- the index after what was written: where w does not fit, i itself
unfoldable pub placed_end : {A : Type 0} → List A → ℕ → List A → ℕ
placed_end d i w = cond (leb (i + length w) (length d)) (i + length w) i

-- what a function that writes w at i where it fits returns and leaves
pub record Places {A : Type 0} (d : List A) (i : ℕ) (w : List A) (next : ℕ) (d' : List A) : Type 0 where
  pub end : next ≡ placed_end d i w
  pub buffer : d' ≡ placed d i w
