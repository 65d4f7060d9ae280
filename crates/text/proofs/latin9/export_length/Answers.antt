-- `text::latin9::export_length` meets its contract: the laws of its loop answer each goal.
-- Assumes nothing.
use Rattle.text.proofs.Latin9Laws.{ascii_export}
use Rattle.text.proofs.latin9.Export.{measure_ascii, measure_broken, measure_stands, measure_byte, measure_unmappable, measure_late, measure_last, measure_start}
use native.Mathlib.Omega.{arith}
use Rattle.text.proofs.utf8.Count.{whole_least}
use borrow.Author.Rules.{rules}
use Rattle.text.proofs.latin9.export_length.Goals as goal

pub returns-then-highest-lt128 : goal.returns-then-highest-lt128
returns-then-highest-lt128 c = search (ascii_export, rules)

pub loop-i-init : goal.loop-i-init
loop-i-init c = search (measure_start, rules)

pub loop-i-preserved-then-text-i-lt128 : goal.loop-i-preserved-then-text-i-lt128
loop-i-preserved-then-text-i-lt128 c = search (measure_ascii, rules)

pub returns-in_default : goal.returns-in_default
returns-in_default c = measure_broken _ c.loop-i.invariant c.loop-i-test.true c.in_default.ensures.0

pub byte_at-requires : goal.byte_at-requires
byte_at-requires c = measure_stands _ c.loop-i.invariant c.loop-i-test.true c.in-Some.ensures.0 c.if-text-i-lt128.false

pub loop-i-preserved : goal.loop-i-preserved
loop-i-preserved c = measure_byte _ c.loop-i.invariant c.loop-i-test.true c.in-Some.ensures.0 c.if-text-i-lt128.false c.byte_at.ensures c.in-Some-byte_at.is

pub returns-then-is_text_from : goal.returns-then-is_text_from
returns-then-is_text_from c = search (measure_unmappable, rules)

pub returns-in_default-byte_at : goal.returns-in_default-byte_at
returns-in_default-byte_at c = search (measure_late, rules)

pub returns : goal.returns
returns c = search (measure_last, rules)

pub loop-i-smaller : goal.loop-i-smaller
loop-i-smaller c = let n = whole_least _ _ c.loop-i-test.true c.in-Some.ensures.0 in omega arith
