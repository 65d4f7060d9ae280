-- `reader::file_wrapper::Metadata::open` meets its contract.
-- Assumes nothing.
use Rattle.reader.proofs.NameLaws.{parsed}
use Rattle.reader.proofs.file_wrapper.Metadata.open.Goals as goal

pub invariant_of-result : goal.invariant_of-result
invariant_of-result c = record { opens = parsed c.in_ok-w.ensures }
