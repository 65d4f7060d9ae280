-- `text::utf8::sequence_length` meets its contract. `by_ones` is what the code computes; that it is the table's length at each byte is one test,
-- which antt computes at the 256 bytes.
-- Assumes nothing.
use mathlib.Core.Path.{◌≡◌}
use Prim.Native.Nat.{ℕ, ◌-◌, ◌≤◌, ◌<◌}
use borrow.Author.Rules.{rules}
use borrow.Author.Tests.{lt-ltb, le-ltb, eq-eqb, ne_eqb}
use lib.Count.{count_leading_zeros}
use lib.Dec.{ltb, eqb}
use mathlib.Core.Bool.{cond}
use Rattle.text.specs.Utf8.{table, find, sequence_length}
use Rattle.text.proofs.TestLaws.{agree}
use Rattle.text.proofs.utf8.sequence_length.Goals.{in_default-via-then-lead-lt128, in_default-via-else-lead-lt128+else-lead-lt194+then-lead-lt245}
use Rattle.text.proofs.utf8.sequence_length.Goals as goal

-- the leading ones of a byte
abbrev ones : ℕ → ℕ
ones b = count_leading_zeros 8 (255 - b)

abbrev by_ones : ℕ → ℕ
by_ones b =
    cond (ltb b 0x80) (cond (eqb (ones b) 0) 1 (ones b))
    (cond (ltb b 0xC2) 0
    (cond (ltb b 0xF5) (cond (eqb (ones b) 0) 1 (ones b))
    0))

law : (b : ℕ) → b < 256 → by_ones b ≡ sequence_length b
unfolding sequence_length find table count_leading_zeros
law b h = agree by_ones sequence_length 256 tt b h

-- the byte starts a sequence: below 80, or from C2 to F4. Either way `by_ones` is its ones, or 1 for none
module _ (b : ℕ) (h : b < 256) where
  none_low : ones b ≡ 0 → b < 0x80 → 1 ≡ sequence_length b
  none_low z l = simp (lt-ltb _ _ l, eq-eqb _ _ z) at (law b h)

  none_high : ones b ≡ 0 → 0x80 ≤ b → 0xC2 ≤ b → b < 0xF5 → 1 ≡ sequence_length b
  none_high z k l u = simp (le-ltb _ _ k, le-ltb _ _ l, lt-ltb _ _ u, eq-eqb _ _ z) at (law b h)

  some_low : (ones b ≡ 0 → ⊥) → b < 0x80 → ones b ≡ sequence_length b
  some_low z l = simp (lt-ltb _ _ l, ne_eqb _ _ z) at (law b h)

  some_high : (ones b ≡ 0 → ⊥) → 0x80 ≤ b → 0xC2 ≤ b → b < 0xF5 → ones b ≡ sequence_length b
  some_high z k l u = simp (le-ltb _ _ k, le-ltb _ _ l, lt-ltb _ _ u, ne_eqb _ _ z) at (law b h)

pub returns-in-128-to-193 : goal.returns-in-128-to-193
unfolding sequence_length find table
returns-in-128-to-193 c = search rules

pub returns-in-128-to-193-2 : goal.returns-in-128-to-193-2
unfolding sequence_length find table
returns-in-128-to-193-2 c = search rules

pub returns-then-ones-eq0 : goal.returns-then-ones-eq0
returns-then-ones-eq0 c =
    elim c.in_default.branch [
      | in_default-via-then-lead-lt128 w ↦ search (none_low, rules)
      | in_default-via-else-lead-lt128+else-lead-lt194+then-lead-lt245 w ↦ search (none_high, rules)
    ]

pub returns-else-ones-eq0 : goal.returns-else-ones-eq0
returns-else-ones-eq0 c =
    elim c.in_default.branch [
      | in_default-via-then-lead-lt128 w ↦ search (some_low, rules)
      | in_default-via-else-lead-lt128+else-lead-lt194+then-lead-lt245 w ↦ search (some_high, rules)
    ]
