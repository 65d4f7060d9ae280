-- `writer::packing::Packer::finish` meets its contract.
-- Assumes nothing.
use Rattle.writer.proofs.packing.Laws.{finish_stores, finish_keeps}
use Rattle.writer.proofs.packing.Packer.finish.Goals as goal

pub returns-then-last-ne0-clause-finished : goal.returns-then-last-ne0-clause-finished
returns-then-last-ne0-clause-finished c = record { is = finish_stores c.args.self.now c.if-last-ne0.true }

pub returns-else-last-ne0-clause-finished : goal.returns-else-last-ne0-clause-finished
returns-else-last-ne0-clause-finished c = record { is = finish_keeps c.args.self.now c.if-last-ne0.false }
