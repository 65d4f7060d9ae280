-- What the loop of `writer::checks::Strings::measure` keeps.
-- Assumes nothing.
use Prim.Native.Nat.{◌/◌}
use lib.ListN.{length}
use Rattle.writer.proofs.checks.Measure.{Measuring}
use Rattle.writer.proofs.checks.Strings.measure.Given as goal

abbrev pub invariant-loop-i : goal.invariant-loop-i
invariant-loop-i l = Measuring l.self.text.now l.self.spans.now (length l.self.spans.now / 2) l.units l.end l.i
