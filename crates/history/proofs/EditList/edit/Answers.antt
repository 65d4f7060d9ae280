-- `history::EditList::edit` meets its contract.
-- Assumes nothing.
use borrow.Author.Rules.{rules}
use Rattle.history.proofs.HistoryLaws.{appends, replaces}
use Rattle.history.proofs.EditList.edit.Goals as goal
use Rattle.history.proofs.EditList.edit.Goals.{in-0, in_default}

pub returns : goal.returns
returns c = elim c.match-self-at.branch [
  | in-0 w ↦ rw w.edit-is (appends _ _ _ _ _ c.part.ensures c.part-2.ensures c.part-3.ensures w.in-0.is)
  | in_default w ↦ rw w.edit-is (replaces _ _ _ _ _ c.part.ensures c.part-2.ensures c.part-3.ensures (search rules))
]
