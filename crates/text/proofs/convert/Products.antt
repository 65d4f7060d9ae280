-- Products below 2^64: one by a division, and those of dimensions by a loop.
-- Assumes nothing.
use Prim.Native.Nat.{ℕ, ◌+◌, ◌*◌, ◌^◌, ◌≤◌, ◌<◌}
use mathlib.Core.Path.{◌≡◌, refl, sym, ap, ◌∙◌}
use Rattle.std.proofs.lemmas.List.{length-map, get_or-map}
use mathlib.Core.List.{List, map}
use native.Mathlib.Numerals.{add-one}
use native.Mathlib.Omega.{arith}
use borrow.Author.Tests.{lt-ltb, le-ltb}
use Rattle.std.specs.Prelude.{Ok, Err, Result as Reply}
use lib.ListN.{length, get_or, drop}
use lib.Seq.{drop-cons, drop-length}
use Rattle.text.specs.Product.{product_from, product_of, check_product}
use Rattle.text.specs.Result.{Result, ok, ◌>>=◌}
use Rattle.text.proofs.TestLaws.{clash}

-- ---- a loop that multiplies dimensions: this is the product of those before dimension i

pub record Multiplying (dims : List ℕ) (product i : ℕ) : Type 0 where
  pub bound : i ≤ length dims
  pub below : product < 2 ^ 64
  pub rest : product_of dims ≡ product_from i product (drop i dims)

-- the dimensions as the file stores them, and what each is as a number
module _ {D : Type 0} (size : D → ℕ) (ds : List D) where
  pub multiply_start : Multiplying (map size ds) 1 0
  unfolding product_of
  multiply_start = record { bound = omega arith; below = omega arith; rest = refl }

  module _ {product i : ℕ} (m : Multiplying (map size ds) product i) where
    module _ (h : i < length ds) {d : D} (at : d ≡ get_or ds i d) {n : ℕ} (e : n ≡ size d) where
      inside : i < length (map size ds)
      inside = omega (arith, length-map ds size)

      is_size : get_or (map size ds) i 0 ≡ n
      is_size = get_or-map size ds i d 0 h ∙ ap size (sym at) ∙ sym e

      pub multiply_turn : {p : ℕ} → (product * n < 2 ^ 64) × (p ≡ product * n) → Multiplying (map size ds) p (i + 1)
      unfolding product_from
      multiply_turn t = record {
        bound = omega (arith, length-map ds size);
        below = omega (arith, t.0, t.1);
        rest = rw (add-one, t.1) (rw (drop-cons (map size ds) i 0 inside, is_size, lt-ltb (product * n) (2 ^ 64) t.0) at m.rest);
      }

      pub multiply_stop : (product * n < 2 ^ 64 → ⊥) → Err i ≡ product_of (map size ds)
      unfolding product_from
      multiply_stop t =
          sym (rw (drop-cons (map size ds) i 0 inside, is_size, le-ltb (product * n) (2 ^ 64) (omega (arith, t))) at m.rest)

    pub multiply_last : length ds ≤ i → Ok product ≡ product_of (map size ds)
    unfolding product_from
    multiply_last h =
        let s : i ≡ length (map size ds) = omega (arith, m.bound, length-map ds size) in
        sym (rw (s, drop-length (map size ds)) at m.rest)

-- ---- what callers know of a product

pub product_passed : (number : ℕ) (x : Reply ℕ ℕ) {A : Type 0} (f : ℕ → Result A) {b : A} → (check_product number x >>= f) ≡ ok b
    → (p : ℕ) × ((x ≡ Ok p) × (f p ≡ ok b))
product_passed number (Ok p) f e = (p, (refl, e))
product_passed number (Err i) f {b} e = clash cc
