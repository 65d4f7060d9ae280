-- `reader::labels::label_source` meets its contract.
-- Assumes nothing.
use mathlib.Core.Path.{◌∙◌}
use borrow.Author.Rules.{rules}
use Rattle.text.proofs.ReplyLaws.{handed_on}
use Rattle.reader.specs.Labels.{label_of}
use Rattle.reader.proofs.labels.Laws.{source_zero, rest_fits, source_ill_formed, source_empty, source_blob}
use Rattle.reader.proofs.labels.label_source.Goals as goal

pub returns-in_err-metadata : goal.returns-in_err-metadata
unfolding label_of
returns-in_err-metadata c = handed_on _ _ c.from_residual.ensures ∙ rw (← c.in_err-metadata.ensures.0)

pub returns-in_err-check_name : goal.returns-in_err-check_name
unfolding label_of
returns-in_err-check_name c =
    handed_on _ _ c.from_residual-in_err-check_name.ensures ∙ rw (← c.in_ok-metadata.ensures.0, ← c.in_err-check_name.ensures)

pub returns-then-index-eq0 : goal.returns-then-index-eq0
returns-then-index-eq0 c = search (source_zero, c.in_ok-metadata.ensures.0, rules)

pub returns-in_default : goal.returns-in_default
returns-in_default c = search (source_ill_formed, c.in_ok-metadata.ensures.0, c.in_ok-check_name.ensures, c.in_default.ensures, rules)

pub returns-then-length-eq0 : goal.returns-then-length-eq0
returns-then-length-eq0 c = search (source_empty, c.in_ok-metadata.ensures.0, c.in_ok-check_name.ensures, c.in-Some.ensures, rules)

pub overflow_sub-result : goal.overflow_sub-result
overflow_sub-result c = search (rest_fits, c.in_ok-metadata.ensures.0, c.in_ok-check_name.ensures, rules)

pub returns : goal.returns
returns c = search (source_blob, c.in_ok-metadata.ensures.0, c.in_ok-check_name.ensures, c.in-Some.ensures, rules)
