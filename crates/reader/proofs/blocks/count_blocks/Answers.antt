-- `reader::blocks::count_blocks` meets its contract.
-- Assumes nothing.
use Rattle.reader.proofs.blocks.Laws.{count_stop, count_turn, count_last}
use borrow.Author.Rules.{rules}
use Rattle.reader.proofs.blocks.count_blocks.Goals as goal

pub returns-then-end-last : goal.returns-then-end-last
returns-then-end-last c = search (count_stop, rules)

pub loop-last-preserved : goal.loop-last-preserved
loop-last-preserved c = search (count_turn, rules)

pub returns : goal.returns
returns c = search (count_last, rules)
