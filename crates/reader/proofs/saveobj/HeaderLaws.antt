-- Checks 22 to 26: a header that passed them.
-- Assumes nothing.
use Prim.Native.Nat.{ℕ, ◌+◌, ◌≤◌}
use mathlib.Core.Path.{◌≡◌, refl, sym}
use mathlib.Core.List.{List}
use Rattle.std.specs.Prelude.{Ok}
use borrow.Author.Tests.{leb-true, eqb-true}
use lib.Dec.{leb, eqb}
use lib.ListN.{length, get_or}
use Rattle.text.specs.Product.{product_of}
use Rattle.text.specs.Result.{ok}
use Rattle.text.specs.Unicode.{within}
use Rattle.text.proofs.convert.Products.{product_passed}
use Rattle.text.proofs.ResultLaws.{check_passed}
use Rattle.text.proofs.TestLaws.{within_is}
use Rattle.reader.specs.Saveobj.{dim_count, stored_dims, Header, check_header}

pub record HeaderPassed (payload : List ℕ) (base n : ℕ) : Type 0 where
  pub version : get_or payload 0 0 ≡ 1
  pub start : base ≡ 2 + dim_count payload
  pub product : product_of (stored_dims payload) ≡ Ok n
  pub inside : base + n ≤ length payload
  pub most : length payload ≤ 2097152

pub header_passed : (payload : List ℕ) {h : Header} → check_header payload ≡ ok h → HeaderPassed payload h.base h.strings
unfolding check_header
header_passed payload {h} e =
    let size = check_passed 22 (within 2 2097152 (length payload)) (length payload) _ e in
    let version = check_passed 23 (eqb (get_or payload 0 0) 1) (get_or payload 0 0) _ size.1 in
    let dims = check_passed 24 (leb (2 + dim_count payload) (length payload)) (dim_count payload) _ version.1 in
    let product = product_passed 25 (product_of (stored_dims payload)) _ dims.1 in
    let lengths = check_passed 26 (leb (2 + dim_count payload + product.0) (length payload)) product.0 _ product.1.1 in
    let k = lengths.1 in
    let z : ◌≡◌ {A = Header} (record { base = 2 + dim_count payload; strings = product.0 }) h = cc in
    rw (sym z)
    (record {
      version = eqb-true (get_or payload 0 0) 1 version.0;
      start = refl;
      product = product.1.0;
      inside = leb-true (2 + dim_count payload + product.0) (length payload) lengths.0;
      most = (within_is 2 2097152 (length payload) size.0).1;
    })
