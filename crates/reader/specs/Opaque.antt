-- Opaque metadata (01's word list): "magic, number of dimensions, dimensions, ids, class". Checks 17 to 21.
-- Assumes nothing.
use Rattle.std.specs.Prelude.{ℕ, ◌+◌, List, leb, eqb, length, get_or, take, drop}
use Rattle.text.specs.Product.{product_of, check_product}
use Rattle.text.specs.Result.{Result, ok, check, ◌>>◌, ◌>>=◌}
use Rattle.reader.specs.declared.opaque.OpaqueMetadata.{OpaqueMetadata}

-- word 1
abbrev pub dimensions : List ℕ → ℕ
dimensions w = get_or w 1 0

-- "it replies with the position of its first id, their number and the class"
unfoldable pub opaque_metadata : List ℕ → Result OpaqueMetadata
opaque_metadata w = do
  check 17 (leb 3 (length w)) (length w)
  check 17 (leb (length w) 65536) (length w)
  check 18 (eqb (get_or w 0 0) 0xDD000000) (get_or w 0 0)
  check 19 (leb (2 + dimensions w + 1) (length w)) (dimensions w)
  ids ← check_product 20 (product_of (take (dimensions w) (drop 2 w)))
  check 21 (eqb (length w) (2 + dimensions w + ids + 1)) (length w)
  ok (record { first_id = 2 + dimensions w; ids = ids; class_id = get_or w (2 + dimensions w + ids) 0 })
