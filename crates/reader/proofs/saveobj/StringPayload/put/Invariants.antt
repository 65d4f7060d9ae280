-- What the loop of `reader::saveobj::StringPayload::put` keeps.
-- Assumes nothing.
use Rattle.reader.proofs.saveobj.Strings.{Writing}
use Rattle.reader.proofs.saveobj.StringPayload.put.Given as goal

abbrev pub invariant-loop-i : goal.invariant-loop-i
invariant-loop-i l = Writing l.self.words.now l.self.base l.self.strings l.initial.text l.initial.spans l.initial.next l.text l.spans l.next l.unit l.i
