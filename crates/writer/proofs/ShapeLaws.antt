-- Check 31: the test of `is_shape`, and a shape by its product.
-- Assumes nothing.
use Prim.Native.Nat.{ℕ}
use Rattle.std.specs.Prelude.{Ok, Err, Result as Reply}
use mathlib.Core.Path.{◌≡◌, refl, ap, ◌∙◌}
use mathlib.Core.Bool.{true}
use mathlib.Core.List.{List, map}
use borrow.Author.Tests.{eq-eqb, eqb-true}
use lib.Dec.{eqb}
use Rattle.std.specs.Result.{result_eq}
use Rattle.std.proofs.lemmas.List.{map-id}
use Rattle.text.specs.Product.{product_of}
use Rattle.text.proofs.TestLaws.{not_both}
use Rattle.writer.specs.Array.{is_product, is_shape}

-- the code's test of a product
pub product_test : (dims : List ℕ) (n : ℕ) → result_eq eqb eqb (product_of (map (λ x. x) dims)) (Ok n) ≡ is_shape dims n
unfolding is_shape
product_test dims n = rw map-id (test (product_of dims))
  where
    test : (x : Reply ℕ ℕ) → result_eq eqb eqb x (Ok n) ≡ is_product n x
    test (Ok p) = refl
    test (Err i) = refl

pub shape_is : (dims : List ℕ) (n : ℕ) → product_of dims ≡ Ok n → is_shape dims n ≡ true
unfolding is_shape
shape_is dims n e = ap (is_product n) e ∙ eq-eqb n n refl

pub shape_product : (dims : List ℕ) (n : ℕ) → is_shape dims n ≡ true → product_of dims ≡ Ok n
unfolding is_shape
shape_product dims n e = is (product_of dims) e
  where
    is : (x : Reply ℕ ℕ) → is_product n x ≡ true → x ≡ Ok n
    is (Ok p) t = ap Ok (eqb-true p n t)
    is (Err i) t = not_both t refl
