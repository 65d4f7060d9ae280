-- `reader::saveobj::is_canonical_payload` meets its contract.
-- Assumes nothing.
use mathlib.Core.Path.{◌∙◌}
use Rattle.reader.proofs.saveobj.Canonical.{packed_inside, canonical_spare, canonical_refused, canonical_missing, canonical_last}
use Rattle.reader.proofs.saveobj.Payload.{header_refused, laid_out, measure_checked}
use Rattle.reader.proofs.saveobj.is_canonical_payload.Goals as goal

pub returns-in_default : goal.returns-in_default
returns-in_default c = canonical_refused _ (header_refused _ c.in_default.ensures.header)

pub returns-in_default-count_units : goal.returns-in_default-count_units
returns-in_default-count_units c =
    let e = c.in-Ok.ensures in
    canonical_refused _ (laid_out _ e.header (rw e.lent at c.in_default-count_units.ensures))

pub is_packed-requires : goal.is_packed-requires
is_packed-requires c =
    let e = c.in-Ok.ensures in
    packed_inside _ (laid_out _ e.header (rw e.lent at c.in-Ok-count_units.ensures))

pub returns-then-not-is_packed : goal.returns-then-not-is_packed
returns-then-not-is_packed c =
    let e = c.in-Ok.ensures in
    canonical_spare _ (laid_out _ e.header (rw e.lent at c.in-Ok-count_units.ensures)) c.is_packed.ensures c.if-not-is_packed.true

pub returns-then-contains : goal.returns-then-contains
returns-then-contains c =
    let e = c.in-Ok.ensures in
    canonical_missing _ (laid_out _ e.header (rw e.lent at c.in-Ok-count_units.ensures)) c.is_packed.ensures c.contains.ensures.value c.if-contains.true

pub measure-requires : goal.measure-requires
measure-requires c =
    let e = c.in-Ok.ensures in
    rw e.lent (measure_checked _ (laid_out _ e.header (rw e.lent at c.in-Ok-count_units.ensures)))

pub returns : goal.returns
returns c =
    let e = c.in-Ok.ensures in
    let l = laid_out _ e.header (rw e.lent at c.in-Ok-count_units.ensures) in
    c.is_ok.ensures.value
    ∙ canonical_last _ l c.is_packed.ensures c.contains.ensures.value c.if-not-is_packed.false c.if-contains.false (λ k. (c.type_inv.payload k).fits) _
    (rw e.lent at c.measure.ensures)
