-- `reader::triples::Triples::first_named` meets its contract.
-- Assumes nothing.
use mathlib.Core.Path.{◌∙◌}
use Rattle.reader.proofs.find.Laws.{walk_start, walk_turn, walk_last}
use Rattle.reader.proofs.triples.Triples.first_named.Goals as goal

pub loop-walk-init : goal.loop-walk-init
loop-walk-init c = walk_start c.args.self c.args.wanted.now c.new-walk.ensures.of c.new-walk.ensures.first

pub loop-walk-preserved : goal.loop-walk-preserved
loop-walk-preserved c =
    walk_turn c.args.self c.args.wanted.now c.loop-walk.invariant c.next_chunk-chunk.ensures.same c.next_chunk-chunk.ensures.first c.next_chunk-chunk.ensures.end c.next_chunk-chunk.ensures.fills c.first_in-best.ensures

pub returns : goal.returns
returns c = c.then_some.ensures ∙ walk_last c.args.self c.args.wanted.now c.loop-walk.invariant c.loop-walk-test.false
