-- `printing::lines::put_escape` meets its contract.
-- Assumes nothing.
use Rattle.printing.proofs.lines.Laws.{plain_room, plain_puts, hex_puts}
use borrow.Author.Rules.{rules}
use Rattle.printing.proofs.lines.put_escape.Goals as goal

pub bounds-out-0 : goal.bounds-out-0
bounds-out-0 c = search (plain_room, rules)

pub returns-then-is_plain : goal.returns-then-is_plain
returns-then-is_plain c = search (plain_puts, rules)

pub returns : goal.returns
returns c = search (hex_puts, rules)
