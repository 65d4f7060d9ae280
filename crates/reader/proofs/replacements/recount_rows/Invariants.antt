-- What the loop of `reader::replacements::recount_rows` keeps.
-- Assumes nothing.
use Rattle.std.specs.Prelude.{map}
use Rattle.reader.specs.Stages.Replacements.{recounted}
use Rattle.reader.proofs.FrontLaws.{Fronts}
use Rattle.reader.proofs.replacements.recount_rows.Given as goal

abbrev pub invariant-loop-row : goal.invariant-loop-row
invariant-loop-row l = Fronts (map (recounted l.counts l.chunk.first l.chunk.end) l.initial.rows) l.initial.rows l.row-index l.rows
