-- `text::utf16::put_text` meets its contract. The loop's measure is what is left of the units.
-- Assumes nothing.
use Rattle.text.proofs.utf16.Decode.{write_turn, write_top, write_room, step_less, write_never, write_last}
use native.Mathlib.Omega.{arith}
use borrow.Author.Rules.{rules}
use Rattle.text.proofs.utf16.put_text.Goals as goal

pub put_utf8-o-requires : goal.put_utf8-o-requires
put_utf8-o-requires c = search (write_top, write_room, rules)

pub loop-i-smaller : goal.loop-i-smaller
loop-i-smaller c = search (step_less, rules)

pub loop-i-preserved : goal.loop-i-preserved
loop-i-preserved c = search (write_turn, rules)

pub returns-in_default : goal.returns-in_default
returns-in_default c = search (write_never, rules)

pub returns : goal.returns
returns c = search (write_last, rules)

pub overflow_add-i : goal.overflow_add-i
overflow_add-i c = let r = loop-i-preserved c in omega arith
