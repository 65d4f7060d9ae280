-- `text::utf8::terminated_length` meets its contract.
-- Assumes nothing.
use Rattle.text.proofs.utf8.Terminated.{ending_zero, ending_ascii, ending_broken, ending_whole, ending_last}
use mathlib.Core.Path.{◌∙◌}
use native.Mathlib.Omega.{arith}
use Rattle.text.proofs.utf8.Count.{whole_least}
use borrow.Author.Rules.{rules}
use Rattle.text.proofs.utf8.terminated_length.Goals as goal

pub returns-then-bytes-i-eq0 : goal.returns-then-bytes-i-eq0
returns-then-bytes-i-eq0 c = search (ending_zero, rules)

pub loop-i-preserved-then-bytes-i-lt128 : goal.loop-i-preserved-then-bytes-i-lt128
loop-i-preserved-then-bytes-i-lt128 c = search (ending_ascii, rules)

pub returns-in_err-i : goal.returns-in_err-i
returns-in_err-i c = c.from_residual.ensures ∙ ending_broken c.loop-i.invariant c.if-bytes-i-eq0.false c.in_err-i.ensures.0

pub loop-i-preserved : goal.loop-i-preserved
loop-i-preserved c = ending_whole c.loop-i.invariant c.if-bytes-i-eq0.false c.in_ok-i.ensures.0

pub returns : goal.returns
returns c = search (ending_last, rules)

pub loop-i-smaller : goal.loop-i-smaller
loop-i-smaller c = let n = whole_least _ _ c.loop-i-test.true c.in_ok-i.ensures.0 in omega arith
