-- `reader::file_wrapper::Metadata::check_string_entry` meets its contract.
-- Assumes nothing.
use mathlib.Core.Path.{◌∙◌}
use Rattle.text.proofs.ReplyLaws.{handed_on}
use Rattle.reader.specs.Queries.{entry_text}
use Rattle.reader.proofs.classes.Laws.{has_name}
use Rattle.reader.proofs.classes.StringClass.{string_joined, string_plain}
use Rattle.reader.proofs.file_wrapper.Metadata.check_string_entry.Goals as goal

pub returns-in_err-check_names : goal.returns-in_err-check_names
unfolding entry_text
returns-in_err-check_names c = handed_on _ _ c.from_residual.ensures ∙ rw (← c.in_err-check_names.ensures)

pub returns-then-entry-ne0 : goal.returns-then-entry-ne0
returns-then-entry-ne0 c = string_joined _ _ _ c.in_ok-check_names.ensures c.if-entry-ne0.true

pub own_bytes-requires : goal.own_bytes-requires
own_bytes-requires c = has_name _ _ c.in_ok-check_names.ensures

pub returns-then-eq : goal.returns-then-eq
returns-then-eq c = string_plain _ _ _ c.in_ok-check_names.ensures c.if-entry-ne0.false c.own_bytes.ensures.0 c.as_slice.ensures c.if-eq.ensures

pub returns : goal.returns
returns c = string_plain _ _ _ c.in_ok-check_names.ensures c.if-entry-ne0.false c.own_bytes.ensures.0 c.as_slice.ensures c.if-eq.ensures
