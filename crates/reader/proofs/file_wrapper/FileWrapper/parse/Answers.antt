-- `reader::file_wrapper::FileWrapper::parse` meets its contract.
-- Assumes nothing.
use mathlib.Core.Path.{◌∙◌}
use borrow.Author.Rules.{rules}
use Rattle.text.proofs.ReplyLaws.{handed_on}
use Rattle.reader.specs.Opening.{opened, layout}
use Rattle.reader.proofs.file_wrapper.Laws.{ordered}
use Rattle.reader.proofs.file_wrapper.FileWrapper.parse.Goals as goal

pub returns-then-blob-gt-MAX_BLOB : goal.returns-then-blob-gt-MAX_BLOB
unfolding opened
returns-then-blob-gt-MAX_BLOB c = search rules

pub returns-in_err-check_within : goal.returns-in_err-check_within
unfolding opened layout
returns-in_err-check_within c = handed_on _ _ c.from_residual.ensures ∙ search (c.in_err-check_within.ensures, rules)

pub returns-then-o-lt-HEADER : goal.returns-then-o-lt-HEADER
unfolding opened layout
returns-then-o-lt-HEADER c = search (c.in_ok-check_within.ensures, rules)

pub returns-in_err-check_order : goal.returns-in_err-check_order
unfolding opened layout
returns-in_err-check_order c =
    handed_on _ _ c.from_residual-in_err-check_order.ensures
    ∙ search (c.in_ok-check_within.ensures, c.in_err-check_order.ensures, rules)

pub parse_regions-requires : goal.parse_regions-requires
parse_regions-requires c = search (ordered, c.in_ok-check_within.ensures, c.in_ok-check_order.ensures, rules)

pub returns : goal.returns
unfolding opened layout
returns c = search (c.in_ok-check_within.ensures, c.in_ok-check_order.ensures, rules)
