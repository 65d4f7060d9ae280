-- What the loop of `reader::file_wrapper::Header::check_order` keeps.
-- Assumes nothing.
use Rattle.text.proofs.ResultLaws.{Checks}
use Rattle.reader.specs.Opening.{is_ordered}
use Rattle.reader.proofs.file_wrapper.Header.check_order.Given as goal

abbrev pub invariant-loop-k : goal.invariant-loop-k
invariant-loop-k l = Checks 5 (is_ordered l.self.blob.now) 1 8 l.k
