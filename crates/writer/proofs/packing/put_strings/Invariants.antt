-- What the loop of `writer::packing::put_strings` keeps.
-- Assumes nothing.
use mathlib.Core.Path.{◌≡◌}
use Rattle.writer.proofs.StringWordLaws.{Stringing}
use Rattle.writer.proofs.packing.put_strings.Given as goal

abbrev pub invariant-loop-i : goal.invariant-loop-i
invariant-loop-i l = record {
  name : l.packer.words.ghost_name ≡ l.initial.packer.words.ghost_name;
  stringing : Stringing l.strings.text.now l.strings.spans.now l.fn.words l.counts l.packer l.i;
}
