-- What the checks 3 to 5 say of the offsets.
-- Assumes nothing.
use mathlib.Core.Path.{◌≡◌, refl, sym}
use mathlib.Core.List.{List}
use Prim.Native.Nat.{ℕ, ◌-◌, ◌≤◌, ◌<◌}
use native.Mathlib.Omega.{arith}
use borrow.Author.Tests.{leb-true}
use lib.ListN.{length, get_or}
use Rattle.text.specs.Result.{ok, check_each}
use Rattle.text.proofs.ResultLaws.{check_each_passed}
use Rattle.reader.specs.Opening.{offset, offsets, is_within, is_ordered}
use Rattle.reader.specs.Stages.Opening.{Ordered}

pub up : (b : List ℕ) {u : Unit {0}} → check_each 5 (is_ordered b) 1 8 ≡ ok u → (k : ℕ) → 1 ≤ k → k < 8 → offset b (k - 1) ≤ offset b k
up b e k h m = leb-true (offset b (k - 1)) (offset b k) (check_each_passed 5 (is_ordered b) 1 8 e k h m)

pub inside : (b : List ℕ) {u : Unit {0}} → check_each 3 (is_within b) 0 8 ≡ ok u → (k : ℕ) → k < 8 → offset b k ≤ length b
inside b e k h = leb-true (offset b k) (length b) (check_each_passed 3 (is_within b) 0 8 e k (omega arith) h)

pub ordered : {b : List ℕ} {u v : Unit {0}} → ok u ≡ check_each 3 (is_within b) 0 8 → ok v ≡ check_each 5 (is_ordered b) 1 8
    → length b ≤ 16777216 → 40 ≤ length b → {o : List ℕ} → o ≡ offsets b → 40 ≤ get_or o 0 0 → Ordered b o
ordered {b} e3 e5 most least e heap =
    rw e
    (record {
      is = refl;
      least = least;
      most = most;
      heap = rw e at heap;
      classes = up b (sym e5) 1 (omega arith) (omega arith);
      saveobj = up b (sym e5) 2 (omega arith) (omega arith);
      records = up b (sym e5) 3 (omega arith) (omega arith);
      normalobj = up b (sym e5) 4 (omega arith) (omega arith);
      inside = inside b (sym e3) 4 (omega arith);
    })
