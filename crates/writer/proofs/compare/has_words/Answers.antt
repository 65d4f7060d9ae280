-- `writer::compare::has_words` meets its contract.
-- Assumes nothing.
use native.Mathlib.Omega.{arith}
use Rattle.writer.proofs.compare.Laws.{reading_stop, reading_turn, reading_last}
use Rattle.writer.proofs.compare.has_words.Goals as goal

pub returns-then-from_le_bytes-word : goal.returns-then-from_le_bytes-word
returns-then-from_le_bytes-word c = reading_stop _ _ _ c.requires (λ k. let h = c.type_inv.blob k in omega arith) c.loop-i.invariant c.loop-i-test.true (let h = c.type_inv.words c.loop-i.i in omega arith) c.from_le_bytes.ensures c.if-from_le_bytes-word.true

pub loop-i-preserved : goal.loop-i-preserved
loop-i-preserved c = reading_turn _ _ _ c.requires (λ k. let h = c.type_inv.blob k in omega arith) c.loop-i.invariant c.loop-i-test.true (let h = c.type_inv.words c.loop-i.i in omega arith) c.from_le_bytes.ensures c.if-from_le_bytes-word.false

pub returns : goal.returns
returns c = reading_last _ _ _ c.loop-i.invariant c.loop-i-test.false
