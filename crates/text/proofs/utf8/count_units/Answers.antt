-- `text::utf8::count_units` meets its contract: the laws of its loop answer each goal.
-- Assumes nothing.
use Rattle.text.proofs.utf8.Count.{whole_least, count_whole, count_ascii, count_stop, count_last}
use Rattle.text.proofs.AsciiLaws.{ascii_counts}
use native.Mathlib.Omega.{arith}
use borrow.Author.Rules.{rules}
use Rattle.text.proofs.utf8.count_units.Goals as goal

pub returns-then-highest-lt128 : goal.returns-then-highest-lt128
returns-then-highest-lt128 c = search (ascii_counts, rules)

pub loop-i-preserved-then-text-i-lt128 : goal.loop-i-preserved-then-text-i-lt128
loop-i-preserved-then-text-i-lt128 c = search (count_ascii, rules)

pub returns-in_default : goal.returns-in_default
returns-in_default c = count_stop _ c.loop-i.invariant c.loop-i-test.true c.in_default.ensures.0

pub loop-i-preserved : goal.loop-i-preserved
loop-i-preserved c = count_whole _ c.loop-i.invariant c.loop-i-test.true c.in-Some.ensures.0 c.units_of-n.ensures

pub returns : goal.returns
returns c = search (count_last, rules)

pub loop-i-smaller : goal.loop-i-smaller
loop-i-smaller c = let n = whole_least _ _ c.loop-i-test.true c.in-Some.ensures.0 in omega arith
