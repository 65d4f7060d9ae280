-- `reader::properties::properties` meets its contract.
-- Assumes nothing.
use Rattle.reader.proofs.properties.Laws.{rows_short}
use Rattle.reader.proofs.properties.properties.Goals as goal

pub returns-then-rows-count : goal.returns-then-rows-count
returns-then-rows-count c = rows_short _ _ c.in_ok-triples.triples c.in_ok-triples.ensures.reply c.in_ok-triples.ensures.are _ c.if-rows-count.true
