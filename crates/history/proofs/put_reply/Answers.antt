-- `history::put_reply` meets its contract.
-- Assumes nothing.
use Rattle.store.proofs.AppendLaws.{two_put}
use Rattle.history.proofs.put_reply.Goals as goal
use Rattle.history.proofs.put_reply.Goals.{in-Ok, in-Err}

pub returns : goal.returns
returns c = elim c.match-reply.branch [
  | in-Ok w ↦ rw (w.number-is, w.in-Ok.is) (two_put _ _ _ _ c.requires)
  | in-Err w ↦ rw (w.number-is, w.in-Err.is, w.from.ensures, w.failure-failure.ensures) (two_put _ _ _ _ c.requires)
]
