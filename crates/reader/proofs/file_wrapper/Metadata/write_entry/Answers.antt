-- `reader::file_wrapper::Metadata::write_entry` meets its contract.
-- Assumes nothing.
use Rattle.reader.specs.Queries.{entry_text}
use Rattle.reader.proofs.NameLaws.{refused, text_by}
use Rattle.reader.proofs.classes.Laws.{has_name, has_space, entry_plain, entry_joined}
use Rattle.reader.proofs.file_wrapper.Metadata.write_entry.Goals as goal

pub returns-in_err-check_names : goal.returns-in_err-check_names
unfolding entry_text
returns-in_err-check_names c = refused _ _ _ _ c.from_residual.ensures (rw (← c.in_err-check_names.ensures))

pub own_bytes-name-requires : goal.own_bytes-name-requires
own_bytes-name-requires c = has_name _ _ c.in_ok-check_names.ensures

pub returns-then-entry-eq0 : goal.returns-then-entry-eq0
returns-then-entry-eq0 c = text_by (entry_plain _ _ c.in_ok-check_names.ensures _ c.own_bytes-name.ensures.0 c.if-entry-eq0.true) c.write_shown.ensures

pub own_bytes-requires : goal.own_bytes-requires
own_bytes-requires c = has_space _ _ c.in_ok-check_names.ensures

pub returns : goal.returns
returns c =
    text_by (entry_joined _ _ c.in_ok-check_names.ensures _ c.own_bytes-name.ensures.0 c.if-entry-eq0.false c.own_bytes.ensures.0) c.write_joined.ensures
