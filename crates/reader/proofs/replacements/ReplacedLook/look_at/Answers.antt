-- `reader::replacements::ReplacedLook::look_at` meets its contract.
-- Assumes nothing.
use Rattle.reader.proofs.replacements.Laws.{counted_empty, count_inside, counted_name}
use Rattle.reader.proofs.names.Pieces.{run_start}
use borrow.Author.Rules.{rules}
use Rattle.reader.proofs.replacements.ReplacedLook.look_at.Goals as goal

pub returns-then-index-eq0 : goal.returns-then-index-eq0
returns-then-index-eq0 c = search (counted_empty, rules)

pub heap_at-rest-requires : goal.heap_at-rest-requires
heap_at-rest-requires c = search (count_inside, rules)

pub piece_end-end-requires : goal.piece_end-end-requires
piece_end-end-requires c = run_start

pub returns : goal.returns
returns c = counted_name c.requires c.if-index-eq0.false c.heap_at-rest.ensures.0 c.piece_end-end.ensures c.shown_size-replaced.ensures
