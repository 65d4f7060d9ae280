-- `writer::file_wrapper::ObjectCount::put_file_wrapper` meets its contract.
-- Assumes nothing.
use native.Mathlib.Omega.{arith}
use Rattle.writer.proofs.FileWrapperLaws.{head_written, block_written, zeros_written, record_written, file_written}
use Rattle.writer.proofs.file_wrapper.ObjectCount.put_file_wrapper.Goals as goal

pub loop-i-init : goal.loop-i-init
loop-i-init c = head_written _ _ c.requires _ c.head_words.ensures c.put_words.ensures

pub loop-i-preserved : goal.loop-i-preserved
loop-i-preserved c = block_written _ _ c.loop-i.invariant c.loop-i-test.true (rw c.saved_block.ensures at c.put_words-in-loop-i.ensures)

pub loop-i-2-init : goal.loop-i-2-init
loop-i-2-init c = zeros_written _ _ c.requires c.loop-i.invariant (omega arith) c.put_words-2.ensures

pub loop-i-2-preserved : goal.loop-i-2-preserved
loop-i-2-preserved c = record_written _ _ c.loop-i-2.invariant c.loop-i-2-test.true (rw c.object_record.ensures at c.put_words-in-loop-i-2.ensures)

pub returns : goal.returns
returns c = file_written _ _ c.requires c.loop-i-2.invariant (omega arith) (c.fill.ensures.after (λ y e. e))
