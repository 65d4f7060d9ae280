-- UTF-16 code units in words of 64 bits.
-- Assumes nothing.
use Rattle.std.specs.Prelude.{ℕ, ◌+◌, ◌*◌, ◌/◌, ◌%◌, ◌^◌, zero, suc, List, [], ◌∷◌, get_or}

-- "units four to a word, low 16 bits first": unit k of the words from index first on
unfoldable pub unit_at : List ℕ → ℕ → ℕ → ℕ
unit_at words first k = get_or words (first + k / 4) 0 / 2 ^ (16 * (k % 4)) % 65536

-- the n units from unit k on
unfoldable pub units_in : List ℕ → ℕ → ℕ → ℕ → List ℕ
units_in words first k zero = []
units_in words first k (suc n) = unit_at words first k ∷ units_in words first (suc k) n
