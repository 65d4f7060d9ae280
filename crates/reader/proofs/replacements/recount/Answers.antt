-- `reader::replacements::recount` meets its contract.
-- Assumes nothing.
use Rattle.reader.proofs.replacements.Laws.{recounted_name, recounted_number}
use Rattle.reader.proofs.replacements.recount.Goals as goal

pub returns-then-is_name : goal.returns-then-is_name
returns-then-is_name c = recounted_name _ _ _ c.args.row c.get_or-name_replaced.ensures c.if-is_name.true c.get_or.ensures

pub returns : goal.returns
returns c = recounted_number _ _ _ c.args.row c.get_or-name_replaced.ensures c.if-is_name.false
