-- Checks 17 to 21: opaque metadata that passed them, and reading what is written for an id.
-- Assumes nothing.
use Prim.Native.Nat.{ℕ, ◌+◌, ◌≤◌}
use mathlib.Core.Path.{◌≡◌, refl, sym}
use mathlib.Core.List.{List}
use native.Mathlib.Omega.{arith}
use borrow.Author.Tests.{leb-true, eqb-true}
use lib.Dec.{leb, eqb}
use lib.ListN.{length, get_or, take, drop}
use Rattle.text.specs.Product.{product_of, product_from}
use Rattle.text.specs.Result.{ok}
use Rattle.text.proofs.convert.Products.{product_passed}
use Rattle.text.proofs.ResultLaws.{check_passed}
use Rattle.writer.specs.Metadata.{object_metadata}
use Rattle.reader.specs.Opaque.{opaque_metadata}
use Rattle.reader.specs.declared.opaque.OpaqueMetadata.{OpaqueMetadata}

-- ---- metadata that passed: its ids lie in it

pub record OpaquePassed (w : List ℕ) (m : OpaqueMetadata) : Type 0 where
  pub there : m.first_id + m.ids ≤ length w
  pub few : length w ≤ 65536

pub opaque_passed : (w : List ℕ) {m : OpaqueMetadata} → ok m ≡ opaque_metadata w → OpaquePassed w m
unfolding opaque_metadata
opaque_passed w {m} e =
    let least = check_passed 17 (leb 3 (length w)) (length w) _ (sym e) in
    let most = check_passed 17 (leb (length w) 65536) (length w) _ least.1 in
    let magic = check_passed 18 (eqb (get_or w 0 0) 0xDD000000) (get_or w 0 0) _ most.1 in
    let dims = check_passed 19 (leb (2 + get_or w 1 0 + 1) (length w)) (get_or w 1 0) _ magic.1 in
    let product = product_passed 20 (product_of (take (get_or w 1 0) (drop 2 w))) _ dims.1 in
    let n = product.0 in
    let size = check_passed 21 (eqb (length w) (2 + get_or w 1 0 + n + 1)) (length w) _ product.1.1 in
    let k = size.1 in
    let z : ◌≡◌ {A = OpaqueMetadata} (record { first_id = 2 + get_or w 1 0; ids = n; class_id = get_or w (2 + get_or w 1 0 + n) 0 }) m = cc in
    rw (sym z)
    (record { there = omega (arith, eqb-true (length w) (2 + get_or w 1 0 + n + 1) size.0); few = leb-true (length w) 65536 most.0 })

-- ---- what is written for an id

-- one id, at position 4, of class 1
pub written_reads : (id : ℕ) → opaque_metadata (object_metadata id) ≡ ok (record { first_id = 4; ids = 1; class_id = 1 })
unfolding opaque_metadata product_of product_from
written_reads id = refl

-- and it is that id
pub written_id : (id : ℕ) → get_or (object_metadata id) 4 0 ≡ id
written_id id = refl
