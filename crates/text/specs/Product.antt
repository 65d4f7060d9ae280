-- The product of dimensions, with 01's check 20: "Does their product, taken left to right, stay below 2^64 at each step?"
-- Assumes nothing.
use Rattle.std.specs.Prelude.{ℕ, suc, ◌*◌, ◌^◌, cond, List, [], ◌∷◌, ltb, Ok, Err, Result as Reply}
use Rattle.text.specs.Result.{Result, ok, error}

-- p times the dimensions from dimension i on, or the first dimension at which it does not stay below
unfoldable pub product_from : ℕ → ℕ → List ℕ → Reply ℕ ℕ
product_from i p [] = Ok p
product_from i p (d ∷ dims) = cond (ltb (p * d) (2 ^ 64)) (product_from (suc i) (p * d) dims) (Err i)

-- "No dimensions means product 1"
unfoldable pub product_of : List ℕ → Reply ℕ ℕ
product_of dims = product_from 0 1 dims

-- a product, or the check of this number at the dimension that takes it past 64 bits
abbrev pub check_product : ℕ → Reply ℕ ℕ → Result ℕ
check_product number (Ok p) = ok p
check_product number (Err i) = error (record { number = number; place = i })
