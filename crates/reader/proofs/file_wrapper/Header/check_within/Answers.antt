-- `reader::file_wrapper::Header::check_within` meets its contract.
-- Assumes nothing.
use mathlib.Core.Path.{sym}
use native.Mathlib.Omega.{arith}
use borrow.Author.Tests.{le-leb, lt-leb}
use Rattle.text.proofs.ResultLaws.{checks_turn, checks_stop, checks_last}
use Rattle.reader.proofs.file_wrapper.Header.check_within.Goals as goal

pub returns-then-self-read_offset : goal.returns-then-self-read_offset
returns-then-self-read_offset c = sym (checks_stop _ _ _ _ c.loop-k.invariant (omega arith) (lt-leb _ _ (omega arith)))

pub loop-k-preserved : goal.loop-k-preserved
loop-k-preserved c = checks_turn _ _ _ _ c.loop-k.invariant (omega arith) (le-leb _ _ (omega arith))

pub returns : goal.returns
returns c = sym (checks_last _ _ _ _ c.loop-k.invariant (omega arith))
