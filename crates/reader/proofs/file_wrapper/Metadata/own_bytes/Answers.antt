-- `reader::file_wrapper::Metadata::own_bytes` meets its contract.
-- Assumes nothing.
use mathlib.Core.Path.{sym}
use native.Mathlib.Omega.{arith}
use borrow.Author.Tests.{eq-eqb}
use Rattle.reader.specs.Names.{name_bytes}
use Rattle.reader.proofs.NameLaws.{own_part}
use Rattle.reader.proofs.names.Pieces.{run_start}
use Rattle.reader.proofs.file_wrapper.Metadata.own_bytes.Goals as goal

pub returns-then-index-eq0 : goal.returns-then-index-eq0
unfolding name_bytes
returns-then-index-eq0 c = (sym (simp (eq-eqb _ 0 c.if-index-eq0.true)), omega arith)

pub piece_end-requires : goal.piece_end-requires
piece_end-requires c = run_start

pub returns : goal.returns
returns c = own_part c.args.self.opens c.requires c.if-index-eq0.false c.heap_from-rest.ensures c.piece_end.ensures
