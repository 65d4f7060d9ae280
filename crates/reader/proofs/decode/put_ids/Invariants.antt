-- What the loop of `reader::decode::put_ids` keeps.
-- Assumes nothing.
use Rattle.reader.proofs.decode.Laws.{WritingIds}
use Rattle.reader.proofs.decode.put_ids.Given as goal

abbrev pub invariant-loop-id : goal.invariant-loop-id
invariant-loop-id l = WritingIds l.cells.directory.now l.cells.kinds.now l.cells.words.now l.ids l.initial.text l.initial.spans l.at l.text l.spans l.id-index
