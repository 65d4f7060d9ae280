-- `history::StoreMut::run_all` meets its contract.
-- Assumes nothing.
use mathlib.Core.Path.{refl}
use native.Mathlib.Omega.{arith}
use Rattle.history.proofs.HistoryLaws.{keeps_on, running_start, running_turn, running_last}
use Rattle.history.proofs.StoreMut.run_all.Goals as goal

pub loop-i-init : goal.loop-i-init
loop-i-init c = record {
  running = running_start _ _ _ _ _ _ _ c.min-n.ensures;
  kept = record { blob = refl; directory = refl; kinds = refl; words = refl };
}

pub loop-i-preserved : goal.loop-i-preserved
loop-i-preserved c = record {
  running = running_turn _ _ _ _ _ _ _ _ _ _ c.loop-i.invariant.running (omega arith) c.run_edit.ensures.runs;
  kept = keeps_on c.loop-i.invariant.kept c.run_edit.ensures.kept;
}

pub returns-clause-ends : goal.returns-clause-ends
returns-clause-ends c = running_last _ _ _ _ _ _ _ _ _ _ _ _ _ _ c.requires c.loop-i.invariant.running (omega arith)
