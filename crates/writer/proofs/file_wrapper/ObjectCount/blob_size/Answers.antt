-- `writer::file_wrapper::ObjectCount::blob_size` meets its contract.
-- Assumes nothing.
use native.Mathlib.Omega.{arith}
use Rattle.writer.proofs.FileWrapperLaws.{length_file_wrapper}
use Rattle.writer.proofs.file_wrapper.ObjectCount.blob_size.Goals as goal

pub returns-clause-blob : goal.returns-clause-blob
returns-clause-blob c = omega (arith, length_file_wrapper c.args.self.n)
