-- `reader::replacements::recount_rows` meets its contract.
-- Assumes nothing.
use Rattle.reader.proofs.replacements.Laws.{mapping_turn, mapping_last}
use borrow.Author.Rules.{rules}
use native.Mathlib.Omega.{arith}
use Rattle.reader.proofs.replacements.recount_rows.Goals as goal

pub loop-row-preserved : goal.loop-row-preserved
loop-row-preserved c = search (mapping_turn, rules)

pub returns : goal.returns
returns c = mapping_last _ c.loop-row.invariant c.args.chunk.any c.if-not-chunk.false (omega arith)
