-- `reader::file_wrapper::Metadata::write_class` meets its contract.
-- Assumes nothing.
use Rattle.reader.specs.Queries.{class_of}
use Rattle.reader.proofs.NameLaws.{refused, text_by}
use Rattle.reader.proofs.file_wrapper.Metadata.write_class.Goals as goal

pub returns-in_err-entry : goal.returns-in_err-entry
unfolding class_of
returns-in_err-entry c = refused _ _ _ _ c.from_residual.ensures (rw (← c.in_err-entry.ensures))

pub returns : goal.returns
unfolding class_of
returns c = text_by (rw (← c.in_ok-entry.ensures)) c.write_entry.ensures
