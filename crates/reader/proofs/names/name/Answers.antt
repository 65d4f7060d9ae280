-- `reader::names::name` meets its contract.
-- Assumes nothing.
use Rattle.reader.specs.Queries.{name_text}
use Rattle.reader.proofs.NameLaws.{refused, text_by}
use Rattle.reader.proofs.names.name.Goals as goal

pub returns-in_err-metadata : goal.returns-in_err-metadata
unfolding name_text
returns-in_err-metadata c = refused _ _ _ _ c.from_residual.ensures (rw (← c.in_err-metadata.ensures.0))

pub returns-in_err-check_name : goal.returns-in_err-check_name
unfolding name_text
returns-in_err-check_name c =
    refused _ _ _ _ c.from_residual-in_err-check_name.ensures (rw (← c.in_ok-metadata.ensures.0, ← c.in_err-check_name.ensures))

pub returns : goal.returns
unfolding name_text
returns c =
    text_by (rw (← c.in_ok-metadata.ensures.0, ← c.in_ok-check_name.ensures) (rw (← c.in_ok-metadata.ensures.1, ← c.own_bytes.ensures.0))) c.write_shown.ensures
