-- `reader::properties::check_triples` meets its contract.
-- Assumes nothing.
use Rattle.reader.proofs.properties.Laws.{checking_turn}
use Rattle.reader.proofs.properties.check_triples.Goals as goal

pub loop-i-preserved : goal.loop-i-preserved
loop-i-preserved c = checking_turn c.loop-i.invariant c.loop-i-test.true c.read-triple.ensures c.in_ok-check_triple.ensures
