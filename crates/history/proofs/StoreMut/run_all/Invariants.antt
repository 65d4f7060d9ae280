-- What the loop of `history::StoreMut::run_all` keeps.
-- Assumes nothing.
use Rattle.history.specs.Stages.{store_in, KeepsBuffers}
use Rattle.history.proofs.HistoryLaws.{Running}
use Rattle.history.proofs.StoreMut.run_all.Given as goal

abbrev pub invariant-loop-i : goal.invariant-loop-i
invariant-loop-i l = record {
  running :
      Running (store_in l.initial.self) l.edits.ops.now l.edits.dims.now l.edits.text.now l.edits.spans.now l.initial.replies l.n (store_in l.self) l.replies l.i;
  kept : KeepsBuffers l.initial.self l.self;
}
