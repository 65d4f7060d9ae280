-- `store::append::put_entry` meets its contract.
-- Assumes nothing.
use Rattle.store.proofs.AppendLaws.{entry_put}
use borrow.Author.Rules.{rules}
use Rattle.store.proofs.append.put_entry.Goals as goal

pub returns : goal.returns
returns c = search (entry_put, rules)
