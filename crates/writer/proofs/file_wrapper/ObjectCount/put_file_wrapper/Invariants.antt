-- What the loops of `writer::file_wrapper::ObjectCount::put_file_wrapper` keep.
-- Assumes nothing.
use Rattle.writer.specs.FileWrapper.{SavedBlocks, Objects}
use Rattle.writer.specs.Stages.FileWrapper.{file_head}
use Rattle.writer.proofs.FileWrapperLaws.{Entering, before_records}
use Rattle.writer.proofs.file_wrapper.ObjectCount.put_file_wrapper.Given as goal

abbrev pub invariant-loop-i : goal.invariant-loop-i
invariant-loop-i l = Entering SavedBlocks l.fn.self.n (file_head l.fn.self.n) l.fn.blob l.blob l.i

abbrev pub invariant-loop-i-2 : goal.invariant-loop-i-2
invariant-loop-i-2 l = Entering Objects l.fn.self.n (before_records l.fn.self.n) l.fn.blob l.blob l.i
