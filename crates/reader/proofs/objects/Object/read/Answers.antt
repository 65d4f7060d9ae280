-- `reader::objects::Object::read` meets its contract.
-- Assumes nothing.
use Rattle.reader.proofs.objects.Laws.{object_refused, object_none, object_has, object_found}
use borrow.Author.Rules.{rules}
use Rattle.reader.proofs.objects.Object.read.Goals as goal

pub returns-in_err-check_block : goal.returns-in_err-check_block
returns-in_err-check_block c = object_refused _ c.record-object.ensures _ _ c.from_residual.ensures c.in_err-check_block.ensures

pub returns-then-block-eq0 : goal.returns-then-block-eq0
returns-then-block-eq0 c = search (object_none, c.in_ok-check_block.ensures, rules)

pub block_after-at-requires : goal.block_after-at-requires
block_after-at-requires c = search (object_has, c.in_ok-check_block.ensures, rules)

pub read_u32-requires : goal.read_u32-requires
read_u32-requires c = search (object_has, c.in_ok-check_block.ensures, rules)

pub returns : goal.returns
returns c = search (object_found, c.in_ok-check_block.ensures, rules)
