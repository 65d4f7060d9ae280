-- `reader::find::WantedLook::look_at` meets its contract.
-- Assumes nothing.
use Rattle.reader.proofs.find.Laws.{look_empty, look_inside, look_piece}
use borrow.Author.Rules.{rules}
use Rattle.reader.proofs.find.WantedLook.look_at.Goals as goal

pub returns-then-index-eq0 : goal.returns-then-index-eq0
returns-then-index-eq0 c = search (look_empty, rules)

pub heap_at-requires : goal.heap_at-requires
heap_at-requires c = search (look_inside, rules)

pub returns : goal.returns
returns c = look_piece c.requires c.args.self.bytes.now c.if-index-eq0.false c.heap_at.ensures.0 c.compare_piece-piece.ensures
