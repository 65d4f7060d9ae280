-- `writer::file_wrapper::put_words` meets its contract.
-- Assumes nothing.
use mathlib.Core.Path.{◌∙◌}
use Rattle.writer.proofs.FileWrapperLaws.{write_start, write_turn}
use Rattle.writer.proofs.file_wrapper.put_words.Goals as goal

pub loop-i-init : goal.loop-i-init
loop-i-init c = write_start _ _ _

pub loop-i-preserved : goal.loop-i-preserved
loop-i-preserved c = write_turn _ _ _ c.requires c.loop-i.invariant c.loop-i-test.true (c.copy_from_slice.ensures.after ∙ c.to_le_bytes.ensures)
