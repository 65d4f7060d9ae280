-- `text::utf8::is_lossy` meets its contract: the laws of its loop answer each goal.
-- Assumes nothing.
use Rattle.text.proofs.PartLaws.{less}
use Rattle.text.proofs.utf8.Same.{match_scalar, match_replacement, stop_scalar, stop_replacement, match_last}
use borrow.Author.Rules.{rules}
use Rattle.text.proofs.utf8.is_lossy.Goals as goal

pub returns-then-not-has_scalar : goal.returns-then-not-has_scalar
returns-then-not-has_scalar c = search (stop_scalar, rules)

pub loop-value-smaller-in-Scalar : goal.loop-value-smaller-in-Scalar
loop-value-smaller-in-Scalar c = search less

pub loop-value-preserved-in-Scalar : goal.loop-value-preserved-in-Scalar
loop-value-preserved-in-Scalar c = search (match_scalar, rules)

pub returns-then-not-has_scalar-2 : goal.returns-then-not-has_scalar-2
returns-then-not-has_scalar-2 c = search (stop_replacement, rules)

pub loop-value-smaller : goal.loop-value-smaller
loop-value-smaller c = search less

pub loop-value-preserved : goal.loop-value-preserved
loop-value-preserved c = search (match_replacement, rules)

pub returns-in-End : goal.returns-in-End
returns-in-End c = search (match_last, rules)
