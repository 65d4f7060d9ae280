-- `writer::file_wrapper::ObjectCount::has_records` meets its contract.
-- Assumes nothing.
use mathlib.Core.Path.{◌∙◌}
use Prim.Native.Nat.{◌+◌, ◌*◌}
use native.Mathlib.Omega.{arith}
use borrow.Author.Rules.{rules}
use borrow.Author.Tests.{tests}
use Rattle.std.proofs.lemmas.Iterator.{YieldsList-from_range}
use Rattle.std.proofs.lemmas.Iterator.Search.{all_from_yields_List}
use Rattle.writer.specs.FileWrapper.{Objects, u32s, entry}
use Rattle.writer.specs.Stages.Compare.{stands_at}
use Rattle.writer.proofs.compare.Laws.{records_stand}
use Rattle.writer.proofs.file_wrapper.ObjectCount.has_records.Goals as goal

pub returns : goal.returns
returns c =
    let b = c.args.blob.now in
    let n = c.args.self.n in
    all_from_yields_List (λ i. stands_at b (120 + 16 * n + 24 * i) (u32s (entry Objects i))) _ _ c.all.result c.all.ensures.ran (YieldsList-from_range 0 n n (cc) (omega arith)) (λ i r q k. search (rules, tests))
    ∙ records_stand b n
