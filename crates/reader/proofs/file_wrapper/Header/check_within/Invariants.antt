-- What the loop of `reader::file_wrapper::Header::check_within` keeps.
-- Assumes nothing.
use Rattle.text.proofs.ResultLaws.{Checks}
use Rattle.reader.specs.Opening.{is_within}
use Rattle.reader.proofs.file_wrapper.Header.check_within.Given as goal

abbrev pub invariant-loop-k : goal.invariant-loop-k
invariant-loop-k l = Checks 3 (is_within l.self.blob.now) 0 8 l.k
