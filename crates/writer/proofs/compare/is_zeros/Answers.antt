-- `writer::compare::is_zeros` meets its contract.
-- Assumes nothing.
use mathlib.Core.Path.{ap, ◌∙◌}
use Prim.Native.Nat.{ℕ, max}
use borrow.Author.Rules.{rules}
use borrow.Author.Tests.{tests}
use lib.Dec.{eqb}
use Rattle.std.proofs.lemmas.Iterator.{YieldsList-from_slice}
use Rattle.std.proofs.lemmas.Iterator.Consumers.{fold_from_yields_List}
use Rattle.writer.proofs.compare.Laws.{zeros_are}
use Rattle.writer.proofs.compare.is_zeros.Goals as goal

pub returns : goal.returns
returns c =
    ap (λ (k : ℕ). eqb k 0) (fold_from_yields_List _ (λ h x. max h x) 0 _ c.fold.ensures.ran (YieldsList-from_slice c.args.bytes.now cc) (λ a x b q k. search (rules, tests)))
    ∙ zeros_are c.args.bytes.now
