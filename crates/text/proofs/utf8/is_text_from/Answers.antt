-- `text::utf8::is_text_from` meets its contract: the laws of its loop answer each goal.
-- Assumes nothing.
use Rattle.text.proofs.latin9.Export.{check_ascii, check_broken, check_whole, check_last}
use native.Mathlib.Omega.{arith}
use Rattle.text.proofs.utf8.Count.{whole_least}
use borrow.Author.Rules.{rules}
use Rattle.text.proofs.utf8.is_text_from.Goals as goal

pub loop-i-preserved-then-text-i-lt128 : goal.loop-i-preserved-then-text-i-lt128
loop-i-preserved-then-text-i-lt128 c = search (check_ascii, rules)

pub returns-in_default : goal.returns-in_default
returns-in_default c = check_broken _ c.loop-i.invariant c.loop-i-test.true c.in_default.ensures.0

pub loop-i-preserved : goal.loop-i-preserved
loop-i-preserved c = check_whole _ c.loop-i.invariant c.loop-i-test.true c.in-Some.ensures.0

pub returns : goal.returns
returns c = search (check_last, rules)

pub loop-i-smaller : goal.loop-i-smaller
loop-i-smaller c = let n = whole_least _ _ c.loop-i-test.true c.in-Some.ensures.0 in omega arith
