-- `text::utf8::put_scalar` meets its contract.
-- Assumes nothing.
use Rattle.text.proofs.ByteLaws.{put_none, put_short, put_past, put_done}
use borrow.Author.Rules.{rules}
use Rattle.text.proofs.utf8.put_scalar.Goals as goal

pub returns-then-n-eq0 : goal.returns-then-n-eq0
returns-then-n-eq0 c = search (put_none, rules)

pub returns-then-out-n : goal.returns-then-out-n
returns-then-out-n c = search (put_short, rules)

pub returns-then-out-n-2 : goal.returns-then-out-n-2
returns-then-out-n-2 c = search (put_past, rules)

pub returns : goal.returns
returns c = search (put_done, rules)
