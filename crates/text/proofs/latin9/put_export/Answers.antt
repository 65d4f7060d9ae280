-- `text::latin9::put_export` meets its contract: the laws of its loop answer each goal.
-- Assumes nothing.
use Rattle.text.proofs.latin9.Export.{write_byte, write_start, write_room, write_ascii, write_stands, write_never, write_last}
use borrow.Author.Rules.{rules}
use Rattle.text.proofs.latin9.put_export.Goals as goal

pub loop-i-init : goal.loop-i-init
loop-i-init c = search (write_start, rules)

pub bounds-out-o : goal.bounds-out-o
bounds-out-o c = search (write_room, rules)

pub loop-i-preserved-then-text-i-lt128 : goal.loop-i-preserved-then-text-i-lt128
loop-i-preserved-then-text-i-lt128 c = search (write_ascii, rules)

pub byte_at-requires : goal.byte_at-requires
byte_at-requires c = search (write_stands, rules)

pub bounds-out-o-in-loop-i : goal.bounds-out-o-in-loop-i
bounds-out-o-in-loop-i c = search (write_room, rules)

pub loop-i-preserved : goal.loop-i-preserved
loop-i-preserved c = search (write_byte, rules)

pub returns-in_default : goal.returns-in_default
returns-in_default c = search (write_never, rules)

pub returns : goal.returns
returns c = search (write_last, rules)
