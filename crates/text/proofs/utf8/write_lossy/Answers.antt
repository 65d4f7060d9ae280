-- `text::utf8::write_lossy` meets its contract.
-- Assumes nothing.
use Rattle.text.proofs.utf8.Lossy.{lossy_short, lossy_own, lossy_room, lossy_written}
use native.Mathlib.Omega.{arith}
use Rattle.text.proofs.utf8.Lossy.{lossy_past}
use borrow.Author.Rules.{rules}
use Rattle.text.proofs.utf8.write_lossy.Goals as goal

pub returns-then-out-size : goal.returns-then-out-size
returns-then-out-size c = search (lossy_short, rules)

pub returns-then-size-eq0 : goal.returns-then-size-eq0
returns-then-size-eq0 c = search (lossy_own, rules)

pub put_repaired-requires : goal.put_repaired-requires
put_repaired-requires c = search (lossy_room, rules)

pub returns : goal.returns
returns c = search (lossy_written, rules)

pub returns-in_default : goal.returns-in_default
returns-in_default c = lossy_past _ _ c.lossy_length.ensures (omega arith) c.in_default.is
