-- `reader::file_wrapper::parse_regions` meets its contract.
-- Assumes nothing.
use mathlib.Core.Path.{◌∙◌}
use borrow.Author.Rules.{rules}
use Rattle.text.proofs.ReplyLaws.{handed_on}
use Rattle.reader.specs.Opening.{check_regions}
use Rattle.reader.proofs.NameLaws.{heap_count}
use Rattle.reader.proofs.file_wrapper.parse_regions.Goals as goal

pub returns-then-pieces-names : goal.returns-then-pieces-names
unfolding check_regions
returns-then-pieces-names c = search (heap_count c.requires c.count_pieces-pieces.ensures, rules)

pub returns-in_err-saveobj_blocks : goal.returns-in_err-saveobj_blocks
unfolding check_regions
returns-in_err-saveobj_blocks c = handed_on _ _ c.from_residual.ensures ∙ search (heap_count c.requires c.count_pieces-pieces.ensures, c.in_err-saveobj_blocks.ensures, rules)

pub returns-in_err-normalobj_blocks : goal.returns-in_err-normalobj_blocks
unfolding check_regions
returns-in_err-normalobj_blocks c =
    handed_on _ _ c.from_residual-in_err-normalobj_blocks.ensures
    ∙ search (heap_count c.requires c.count_pieces-pieces.ensures, c.in_ok-saveobj_blocks.ensures, c.in_err-normalobj_blocks.ensures, rules)

pub returns : goal.returns
unfolding check_regions
returns c = search (heap_count c.requires c.count_pieces-pieces.ensures, c.in_ok-saveobj_blocks.ensures, c.in_ok-normalobj_blocks.ensures, rules)
