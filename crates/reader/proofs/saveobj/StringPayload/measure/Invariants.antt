-- What the loops of `reader::saveobj::StringPayload::measure` keep, and the inner one's measure.
-- Assumes nothing.
use Prim.Native.Nat.{◌-◌}
use Rattle.reader.proofs.saveobj.Strings.{Measuring, Within}
use Rattle.reader.proofs.saveobj.StringPayload.measure.Given as goal

abbrev pub invariant-loop-k : goal.invariant-loop-k
invariant-loop-k l = Within l.self.words.now l.self.base l.self.strings l.bytes l.k l.i l.end

abbrev pub invariant-loop-i : goal.invariant-loop-i
invariant-loop-i l = Measuring l.self.words.now l.self.base l.self.strings l.bytes l.k l.i

abbrev pub decreases-loop-k : goal.decreases-loop-k
decreases-loop-k l = l.end - l.k
