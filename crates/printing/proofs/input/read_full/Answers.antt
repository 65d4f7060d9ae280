-- `printing::input::read_full`: each read goes after the bytes that earlier ones gave.
-- Assumes nothing.
use Rattle.printing.proofs.ReadLaws.{read_more}
use borrow.Author.Rules.{rules}
use Rattle.std.proofs.lemmas.Slice.{overwrites}
use Rattle.printing.proofs.input.read_full.Goals as goal

pub returns-in_err-more-clause-front : goal.returns-in_err-more-clause-front
returns-in_err-more-clause-front g c = search (read_more, overwrites, rules)

pub loop-n-preserved : goal.loop-n-preserved
loop-n-preserved g c = search (read_more, overwrites, rules)
