-- `store::canonical::StoreRef::counted` meets its contract.
-- Assumes nothing.
use native.Mathlib.Omega.{arith}
use Rattle.store.proofs.CheckLaws.{cut_none, front, cut_some}
use Rattle.store.proofs.canonical.StoreRef.counted.Goals as goal

pub returns-in_err-pairs : goal.returns-in_err-pairs
returns-in_err-pairs c = cut_none _ c.from_residual.ensures (λ d n b w. omega (arith, c.in_err-pairs.ensures))

pub returns-in_err-get : goal.returns-in_err-get
returns-in_err-get c = cut_none _ c.from_residual-in_err-get.ensures (λ d n b w. omega (arith, c.in_err-get.ensures.lookup.0))

pub returns-in_err-get-2 : goal.returns-in_err-get-2
returns-in_err-get-2 c = cut_none _ c.from_residual-in_err-get-2.ensures (λ d n b w. omega (arith, c.in_err-get-2.ensures.lookup.0))

pub returns-in_err-get-3 : goal.returns-in_err-get-3
returns-in_err-get-3 c = cut_none _ c.from_residual-in_err-get-3.ensures (λ d n b w. omega (arith, c.in_err-get-3.ensures.lookup.0))

pub returns-in_err-get-4 : goal.returns-in_err-get-4
returns-in_err-get-4 c = cut_none _ c.from_residual-in_err-get-4.ensures (λ d n b w. omega (arith, c.in_err-get-4.ensures.lookup.0))

pub returns : goal.returns
returns c =
    cut_some _ _ _ (front _ c.in_ok-get.ensures.lookup.0 c.to_usize.ensures) (front _ c.in_ok-get-2.ensures.lookup.0 (omega (arith, c.in_ok-pairs.ensures)))
    (front _ c.in_ok-get-3.ensures.lookup.0 c.to_usize-3.ensures) (front _ c.in_ok-get-4.ensures.lookup.0 c.to_usize-4.ensures)
