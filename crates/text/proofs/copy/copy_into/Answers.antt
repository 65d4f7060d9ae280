-- `text::copy::copy_into` meets its contract.
-- Assumes nothing.
use native.Mathlib.Omega.{arith}
use borrow.Author.Rules.{rules}
use Rattle.text.proofs.copy.Laws.{copy_past, copy_short, copy_start, copy_turn, copy_last}
use Rattle.text.proofs.copy.copy_into.Goals as goal
use Rattle.text.proofs.copy.copy_into.Goals.{then-out-at-via-then-out-at, then-out-at-via-else-out-at+then-out-at-2}

pub returns-then-out-at : goal.returns-then-out-at
returns-then-out-at g c =
    elim c.then-out-at.branch
    [ then-out-at-via-then-out-at w ↦ search (copy_past, rules) | then-out-at-via-else-out-at+then-out-at-2 w ↦ search (copy_short, rules) ]

pub loop-i-init : goal.loop-i-init
loop-i-init g c = copy_start _ _ _

pub loop-i-preserved : goal.loop-i-preserved
loop-i-preserved g c = copy_turn _ _ _ (omega arith) (omega arith) c.loop-i.invariant (omega arith) c.index-items-i.is

pub returns : goal.returns
returns g c = copy_last _ _ _ (omega arith) (omega arith) c.loop-i.invariant (omega arith)
