-- `reader::file_wrapper::Metadata::check_string_class` meets its contract.
-- Assumes nothing.
use mathlib.Core.Path.{◌∙◌}
use Rattle.text.proofs.ReplyLaws.{handed_on}
use Rattle.reader.specs.Decode.{string_class}
use Rattle.reader.specs.Queries.{class_of}
use Rattle.reader.proofs.file_wrapper.Metadata.check_string_class.Goals as goal

pub returns-in_err-entry : goal.returns-in_err-entry
unfolding string_class class_of
returns-in_err-entry c = handed_on _ _ c.from_residual.ensures ∙ rw (← c.in_err-entry.ensures)

pub returns : goal.returns
unfolding string_class class_of
returns c = c.check_string_entry.ensures ∙ rw (← c.in_ok-entry.ensures)
