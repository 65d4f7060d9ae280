-- The opaque metadata written for one object (01's word list).
-- Assumes nothing.
use Rattle.std.specs.Prelude.{ℕ, List, [], ◌∷◌}

-- "magic, 2, 1, 1, id, 1"
abbrev pub object_metadata : ℕ → List ℕ
object_metadata id = 0xDD000000 ∷ 2 ∷ 1 ∷ 1 ∷ id ∷ 1 ∷ []
