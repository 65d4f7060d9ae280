-- What the loop of `reader::decode::measure_ids` keeps.
-- Assumes nothing.
use Rattle.reader.proofs.decode.Laws.{MeasuringIds}
use Rattle.reader.proofs.decode.measure_ids.Given as goal

abbrev pub invariant-loop-id : goal.invariant-loop-id
invariant-loop-id l = MeasuringIds l.cells.directory.now l.cells.kinds.now l.cells.words.now l.ids l.bytes l.strings l.id-index
