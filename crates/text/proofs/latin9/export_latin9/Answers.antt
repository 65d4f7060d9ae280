-- `text::latin9::export_latin9` meets its contract.
-- Assumes nothing.
use native.Mathlib.Omega.{arith}
use Rattle.text.proofs.ReplyLaws.{writes_refused}
use Rattle.text.proofs.latin9.Export.{export_refused, export_short, export_own, export_written}
use Rattle.text.proofs.latin9.export_latin9.Goals as goal

pub returns-in_err-n : goal.returns-in_err-n
returns-in_err-n c = writes_refused _ _ c.from_residual.result c.in_err-n.field-0.0 c.from_residual.ensures (export_refused _ _ c.in_err-n.ensures)

pub returns-then-out-n : goal.returns-then-out-n
returns-then-out-n c = export_short _ _ c.in_ok-n.ensures (omega arith) c.if-out-n.true

pub returns-then-n-text : goal.returns-then-n-text
returns-then-n-text c = export_own _ _ c.in_ok-n.ensures c.if-out-n.false c.if-n-text.true c.copy_into.ensures

pub returns : goal.returns
returns c = export_written _ _ c.in_ok-n.ensures c.if-out-n.false c.put_export.ensures
