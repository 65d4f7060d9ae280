-- `store::replace::replace_words` meets its contract.
-- Assumes nothing.
use native.Mathlib.Omega.{arith}
use Rattle.store.proofs.ReplaceLaws.{words_replaced}
use Rattle.store.proofs.replace.replace_words.Goals as goal

pub returns : goal.returns
returns c = words_replaced _ _ _ _ _ _ c.requires c.copy_within.ensures.after c.put.ensures (omega arith) c.max.ensures (c.fill.ensures.after (λ y e. e))
