-- `reader::triples::Triples::put_rows` meets its contract.
-- Assumes nothing.
use Rattle.reader.proofs.properties.Laws.{fill_turn, fill_last}
use borrow.Author.Rules.{rules}
use native.Mathlib.Omega.{arith}
use Rattle.reader.proofs.triples.Triples.put_rows.Goals as goal

pub loop-i-preserved : goal.loop-i-preserved
loop-i-preserved c = search (fill_turn, rules)

pub returns : goal.returns
returns c = fill_last c.args.self c.loop-i.invariant c.requires (omega arith)
