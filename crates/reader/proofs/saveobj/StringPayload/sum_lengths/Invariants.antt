-- What the loop of `reader::saveobj::StringPayload::sum_lengths` keeps.
-- Assumes nothing.
use Rattle.reader.proofs.saveobj.Lengths.{Summing}
use Rattle.reader.proofs.saveobj.StringPayload.sum_lengths.Given as goal

abbrev pub invariant-loop-i : goal.invariant-loop-i
invariant-loop-i l = Summing l.self.words.now l.self.base l.self.strings l.sum l.i
