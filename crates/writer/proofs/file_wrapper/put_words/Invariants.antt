-- What the loop of `writer::file_wrapper::put_words` keeps.
-- Assumes nothing.
use Rattle.writer.proofs.FileWrapperLaws.{Writing}
use Rattle.writer.proofs.file_wrapper.put_words.Given as goal

abbrev pub invariant-loop-i : goal.invariant-loop-i
invariant-loop-i l = Writing l.words l.initial.blob l.at l.blob l.i
