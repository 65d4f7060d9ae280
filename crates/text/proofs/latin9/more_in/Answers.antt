-- `text::latin9::more_in` meets its contract: the laws of its loop answer each goal.
-- Assumes nothing.
use Rattle.text.proofs.Latin9Laws.{ascii_import}
use Rattle.text.proofs.latin9.Import.{measure_turn, measure_last}
use borrow.Author.Rules.{rules}
use Rattle.text.proofs.latin9.more_in.Goals as goal

pub returns-then-highest-lt128 : goal.returns-then-highest-lt128
returns-then-highest-lt128 c = search (ascii_import, rules)

pub loop-byte-preserved : goal.loop-byte-preserved
loop-byte-preserved c = search (measure_turn, rules)

pub returns : goal.returns
returns c = search (measure_last, rules)
