-- Check 13: the loop of `check_cells`, and what a directory that passed says of its cells.
-- Assumes nothing.
use Prim.Native.Nat.{ℕ, ◌+◌, ◌*◌, ◌/◌, ◌%◌, ◌^◌, ◌≤◌, ◌<◌}
use mathlib.Core.Path.{◌≡◌, refl, sym, ◌∙◌}
use mathlib.Core.Bool.{Bool, true, false, not}
use mathlib.Core.List.{List, []}
use native.Mathlib.Numerals.{add-one}
use native.Mathlib.Omega.{arith}
use borrow.Author.Tests.{leb-true, eqb-true, not-true, not-false}
use lib.Dec.{leb, eqb}
use lib.ListN.{length, get_or}
use Rattle.std.specs.Simd.{first_chunks}
use Rattle.text.specs.Result.{ok, error, check_each}
use Rattle.text.proofs.ResultLaws.{Checks, checks_turn, checks_stop, checks_last, check_passed, check_each_passed}
use Rattle.text.proofs.TestLaws.{and_is}
use Rattle.writer.specs.Spans.{offset_at, length_at, end_at}
use Rattle.writer.proofs.SpanLaws.{pair_offset, pair_length}
use Rattle.reader.specs.Cells.{end_before, lies_in, is_cell, cell_count, check_directory}

module _ (end offset len words : ℕ) where
  -- what follows ends within the words
  pub follows_fits : {r : Bool} → r ≡ lies_in end offset len words → not r ≡ false → words < 2 ^ 64 → offset + len < 2 ^ 64
  unfolding lies_in
  follows_fits {r} e t h =
      omega (arith, leb-true (offset + len) words (and_is (leb end offset) (leb (offset + len) words) (sym e ∙ not-false r t)).1)

-- ---- the pairs of a directory

-- a cell ends within the words
pub cell_within : (directory : List ℕ) (words j : ℕ) → is_cell directory words j ≡ true → end_at directory j ≤ words
unfolding lies_in
cell_within directory words j e = leb-true (end_at directory j) words (and_is (leb (end_before directory j) (offset_at directory j)) (leb (end_at directory j) words) e).1

-- 13 holds of the pairs before pair i, and this is where the last of them ends
pub record CellsBefore (directory : List ℕ) (words n end i : ℕ) : Type 0 where
  pub is : end ≡ end_before directory i
  pub checks : Checks 13 (is_cell directory words) 0 n i

module _ (directory : List ℕ) (words n : ℕ) where
  module _ {end i : ℕ} (m : CellsBefore directory words n end i) where
    module _ {ps : List (List ℕ)} {offset len : ℕ} {r : Bool} (p : ps ≡ first_chunks 2 n directory) (h : i < n) (e : r ≡ lies_in end offset len words)
        (o : offset ≡ get_or (get_or ps i []) 0 0) (l : len ≡ get_or (get_or ps i []) 1 0) where
      offset_is : offset ≡ offset_at directory i
      offset_is = o ∙ pair_offset directory n i p h

      len_is : len ≡ length_at directory i
      len_is = l ∙ pair_length directory n i p h

      is_cell_lem : is_cell directory words i ≡ r
      is_cell_lem = rw (e, m.is, offset_is, len_is)

      pub cells_turn : not r ≡ false → CellsBefore directory words n (offset + len) (i + 1)
      cells_turn t = record {
        is = rw (add-one i, offset_is, len_is) refl;
        checks = checks_turn 13 (is_cell directory words) 0 n m.checks h (is_cell_lem ∙ not-false r t);
      }

      pub cells_stop : not r ≡ true → error (record { number = 13; place = i }) ≡ check_each 13 (is_cell directory words) 0 n
      cells_stop t = sym (checks_stop 13 (is_cell directory words) 0 n m.checks h (is_cell_lem ∙ not-true r t))

    pub cells_last : n ≤ i → ok tt ≡ check_each 13 (is_cell directory words) 0 n
    cells_last h = sym (checks_last 13 (is_cell directory words) 0 n m.checks h)

-- ---- a directory that passed

pub record DirectoryPassed (directory kinds : List ℕ) (words : ℕ) : Type 0 where
  pub kinds_match : length kinds ≡ length directory / 2
  pub inside : (j : ℕ) → j < length directory / 2 → end_at directory j ≤ words

directory_passed : (directory kinds : List ℕ) (words : ℕ) → check_directory directory kinds words ≡ ok tt → DirectoryPassed directory kinds words
unfolding check_directory
directory_passed directory kinds words d =
    let even = check_passed 13 (eqb (length directory % 2) 0) (length directory) _ d in
    let few = check_passed 13 (leb (length directory) 699044) (length directory) _ even.1 in
    let many = check_passed 13 (eqb (length kinds) (cell_count directory)) (length directory) _ few.1 in
    record {
      kinds_match = eqb-true (length kinds) (cell_count directory) many.0;
      inside = λ j h. cell_within directory words j (check_each_passed 13 (is_cell directory words) 0 (cell_count directory) many.1 j (omega arith) h);
    }

-- ---- a cell of it lies within the words

module _ (directory kinds words : List ℕ) (j : ℕ) (d : check_directory directory kinds (length words) ≡ ok tt) (h : j < length directory / 2) where
  pub cell_kind : j < length kinds
  cell_kind = omega (arith, (directory_passed directory kinds (length words) d).kinds_match)

  module _ {start len : ℕ} (s : start ≡ offset_at directory j) (l : len ≡ length_at directory j) where
    pub cell_end : start + len ≤ length words
    cell_end = omega (arith, (directory_passed directory kinds (length words) d).inside j h)

    pub cell_fits : length words * 8 < 2 ^ 63 → start + len < 2 ^ 64
    cell_fits f = omega (arith, cell_end)

    pub cell_byte : length words * 8 < 2 ^ 63 → start * 8 < 2 ^ 64
    cell_byte f = omega (arith, cell_end)
