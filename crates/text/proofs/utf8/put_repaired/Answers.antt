-- `text::utf8::put_repaired` meets its contract: the laws of its loop answer each goal.
-- Assumes nothing.
use Rattle.text.proofs.utf8.Lossy.{scalar_top, scalar_room, write_scalar, replacement_room, write_replacement, write_last}
use Rattle.text.proofs.PartLaws.{less}
use borrow.Author.Rules.{rules}
use Rattle.text.proofs.utf8.put_repaired.Goals as goal

pub put_utf8-o-requires : goal.put_utf8-o-requires
put_utf8-o-requires c = search (scalar_top, scalar_room, rules)

pub loop-value-smaller-in-Scalar : goal.loop-value-smaller-in-Scalar
loop-value-smaller-in-Scalar c = search (less, rules)

pub loop-value-preserved-in-Scalar : goal.loop-value-preserved-in-Scalar
loop-value-preserved-in-Scalar c = search (write_scalar, rules)

pub put_utf8-o-requires-in-IllFormed : goal.put_utf8-o-requires-in-IllFormed
put_utf8-o-requires-in-IllFormed c = search (replacement_room, rules)

pub loop-value-smaller : goal.loop-value-smaller
loop-value-smaller c = search (less, rules)

pub loop-value-preserved : goal.loop-value-preserved
loop-value-preserved c = search (write_replacement, rules)

pub returns-in-End : goal.returns-in-End
returns-in-End c = search (write_last, rules)
