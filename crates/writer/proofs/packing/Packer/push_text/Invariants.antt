-- What the loop of `writer::packing::Packer::push_text` keeps, and its measure.
-- Assumes nothing.
use mathlib.Core.Path.{◌≡◌}
use Rattle.text.proofs.PartLaws.{left}
use Rattle.writer.proofs.packing.Laws.{Pushing}
use Rattle.writer.proofs.packing.Packer.push_text.Given as goal

abbrev pub invariant-loop-i : goal.invariant-loop-i
invariant-loop-i l = record { name : l.self.words.ghost_name ≡ l.fn.self.words.ghost_name; pushing : Pushing l.text l.fn.self l.self l.i }

abbrev pub decreases-loop-i : goal.decreases-loop-i
decreases-loop-i l = left l.text l.i
