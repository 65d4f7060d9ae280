-- UTF-16 code units, four to a word of 64 bits, low 16 bits first.
-- Assumes nothing.
use Rattle.std.specs.Prelude.{ℕ, ◌+◌, ◌*◌, List, [], ◌∷◌}

-- the number whose digits to the base 65536 are the list, lowest first
unfoldable pub value : List ℕ → ℕ
value [] = 0
value (u ∷ us) = u + 65536 * value us

-- "units four to a word"; "Writing pads the last word with zeros"
unfoldable pub packed : List ℕ → List ℕ
packed [] = []
packed (a ∷ []) = value (a ∷ []) ∷ []
packed (a ∷ b ∷ []) = value (a ∷ b ∷ []) ∷ []
packed (a ∷ b ∷ c ∷ []) = value (a ∷ b ∷ c ∷ []) ∷ []
packed (a ∷ b ∷ c ∷ d ∷ us) = value (a ∷ b ∷ c ∷ d ∷ []) ∷ packed us
