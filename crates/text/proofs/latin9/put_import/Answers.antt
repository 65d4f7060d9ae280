-- `text::latin9::put_import` meets its contract: the laws of its loop answer each goal.
-- Assumes nothing.
use Rattle.text.proofs.latin9.Import.{write_own_room, write_own, write_room, write_turn, write_last}
use borrow.Author.Rules.{rules}
use Rattle.text.proofs.latin9.put_import.Goals as goal

pub bounds-out-o : goal.bounds-out-o
bounds-out-o c = write_own_room _ c.loop-byte.invariant (search rules) (search rules)

pub loop-byte-preserved-then-byte-lt128 : goal.loop-byte-preserved-then-byte-lt128
loop-byte-preserved-then-byte-lt128 c = search (write_own, rules)

pub put_utf8-o-requires : goal.put_utf8-o-requires
put_utf8-o-requires c = search (write_room, rules)

pub loop-byte-preserved : goal.loop-byte-preserved
loop-byte-preserved c = search (write_turn, rules)

pub returns : goal.returns
returns c = search (write_last, rules)
