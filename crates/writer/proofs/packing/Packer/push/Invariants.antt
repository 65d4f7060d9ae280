-- What the loop of `writer::packing::Packer::push` keeps.
-- Assumes nothing.
use Rattle.writer.proofs.packing.Laws.{Shifting}
use Rattle.writer.proofs.packing.Packer.push.Given as goal

abbrev pub invariant-loop-unit : goal.invariant-loop-unit
invariant-loop-unit g l = Shifting l.fn.self l.fn.units l.self l.unit-index
