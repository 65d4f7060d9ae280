-- `reader::names::compare_piece` meets its contract.
-- Assumes nothing.
use borrow.Author.Rules.{rules}
use native.Mathlib.Omega.{arith}
use Rattle.reader.proofs.names.Comparison.{agree_start, agree_past, agree_short, agree_other, agree_turn, agree_run, agree_last}
use Rattle.reader.proofs.names.compare_piece.Goals as goal
use Rattle.reader.proofs.names.compare_piece.Goals.{then-n-rest-via-then-n-rest, then-n-rest-via-else-n-rest+then-rest-n-eq0}

pub loop-n-init : goal.loop-n-init
loop-n-init c = search (agree_start, rules)

pub returns-then-n-rest : goal.returns-then-n-rest
returns-then-n-rest c =
    elim c.then-n-rest.branch [
      | then-n-rest-via-then-n-rest w ↦ agree_past c.loop-n.invariant c.loop-n-test.true w.if-n-rest.true
      | then-n-rest-via-else-n-rest+then-rest-n-eq0 w ↦ agree_short c.loop-n.invariant c.loop-n-test.true w.if-rest-n-eq0.true
    ]

pub piece_end-end-requires : goal.piece_end-end-requires
piece_end-end-requires c = agree_run c.loop-n.invariant (omega arith)

pub returns-then-rest-n : goal.returns-then-rest-n
returns-then-rest-n c = agree_other c.loop-n.invariant c.loop-n-test.true c.if-rest-n.true c.piece_end.ensures

pub loop-n-preserved : goal.loop-n-preserved
loop-n-preserved c =
    let a = c.loop-n.invariant in
    agree_turn a c.loop-n-test.true (omega (arith, a.run.inside)) c.if-rest-n-eq0.false c.if-rest-n.false

pub returns : goal.returns
returns c = agree_last c.loop-n.invariant (omega arith) c.piece_end-end.ensures
