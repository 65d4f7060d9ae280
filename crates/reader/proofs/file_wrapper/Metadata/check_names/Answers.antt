-- `reader::file_wrapper::Metadata::check_names` meets its contract.
-- Assumes nothing.
use mathlib.Core.Path.{◌∙◌}
use Rattle.text.proofs.ReplyLaws.{handed_on}
use Rattle.reader.specs.Queries.{check_names}
use Rattle.reader.proofs.file_wrapper.Metadata.check_names.Goals as goal

pub returns-in_err-check_name : goal.returns-in_err-check_name
unfolding check_names
returns-in_err-check_name c = handed_on _ _ c.from_residual.ensures ∙ rw (← c.in_err-check_name.ensures)

pub returns : goal.returns
unfolding check_names
returns c = c.check_name-2.ensures ∙ rw (← c.in_ok-check_name.ensures)
