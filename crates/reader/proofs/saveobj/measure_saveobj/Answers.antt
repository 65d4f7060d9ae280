-- `reader::saveobj::measure_saveobj` meets its contract.
-- Assumes nothing.
use mathlib.Core.Path.{◌∙◌}
use Rattle.text.proofs.ReplyLaws.{handed_on}
use Rattle.reader.proofs.saveobj.Payload.{header_refused, laid_out, measure_checked, measure_strings, measure_refused}
use Rattle.reader.proofs.saveobj.measure_saveobj.Goals as goal

pub returns-in_err-strings : goal.returns-in_err-strings
returns-in_err-strings c =
    handed_on c.from_residual.result c.in_err-strings.field-0.0 c.from_residual.ensures ∙ measure_refused _ (header_refused _ c.in_err-strings.ensures.header)

pub returns-in_err-count_units : goal.returns-in_err-count_units
returns-in_err-count_units c =
    handed_on c.from_residual-in_err-count_units.result c.in_err-count_units.field-0.0 c.from_residual-in_err-count_units.ensures
    ∙ measure_refused _ (laid_out _ c.in_ok-strings.ensures.header (rw c.in_ok-strings.ensures.lent at c.in_err-count_units.ensures))

pub measure-requires : goal.measure-requires
measure-requires c =
    rw c.in_ok-strings.ensures.lent
    (measure_checked _ (laid_out _ c.in_ok-strings.ensures.header (rw c.in_ok-strings.ensures.lent at c.in_ok-count_units.ensures)))

pub returns : goal.returns
returns c =
    let e = c.in_ok-strings.ensures in
    measure_strings _ (laid_out _ e.header (rw e.lent at c.in_ok-count_units.ensures)) (rw e.lent at c.measure.ensures)
