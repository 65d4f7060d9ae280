-- `writer::string_object::build_string_filewrapper_metadata` meets its contract.
-- Assumes nothing.
use mathlib.Core.Path.{refl}
use native.Mathlib.Omega.{arith}
use Rattle.text.proofs.ReplyLaws.{writes_refused}
use Rattle.writer.proofs.FileWrapperLaws.{build_many, short_refused, built}
use Rattle.writer.proofs.string_object.build_string_filewrapper_metadata.Goals as goal

pub returns-in_err-count : goal.returns-in_err-count
returns-in_err-count c = writes_refused _ _ _ _ c.from_residual.ensures (rw (c.in_err-count.ensures.1) (build_many _ _ c.in_err-count.ensures.0))

pub returns-then-blob-need : goal.returns-then-blob-need
returns-then-blob-need c =
    let e = c.in_ok-count.ensures in
    short_refused (omega (arith, e, c.in_ok-count.count.few)) (rw e at c.blob_size-need.ensures.blob) c.if-blob-need.true

pub returns : goal.returns
returns c =
    let e = c.in_ok-count.ensures in
    built (omega (arith, e, c.in_ok-count.count.few)) (rw e at c.blob_size-need.ensures.blob) (omega arith) e refl c.put_file_wrapper.ensures
