-- `reader::triples::Triples::first_in` meets its contract.
-- Assumes nothing.
use mathlib.Core.Path.{◌≡◌}
use mathlib.Core.Bool.{Bool, true, false}
use Prim.Native.Nat.{ℕ, ◌+◌, ◌*◌}
use borrow.Author.Rules.{rules}
use borrow.Author.Tests.{tests}
use Rattle.std.proofs.lemmas.Iterator.{first_from_Range}
use Rattle.reader.specs.Stages.Chunks.{value_in}
use Rattle.reader.specs.Wire.{triple_at}
use Rattle.reader.proofs.find.Laws.{found_first}
use Rattle.reader.proofs.triples.Triples.first_in.Goals as goal

pub returns : goal.returns
returns c =
    let p : ℕ → Bool = λ x. value_in c.args.flags.now c.args.chunk.first c.args.chunk.end x false in
    let is : ℕ → Bool → Type 0 = λ k b. p (triple_at c.args.self.metadata.blob.now (c.args.self.at + 12 * k)).name_idx ≡ b in
    let f = found_first p c.args.self c.args.limit c.find.result
    (first_from_Range _ _ _ _ (λ k. is k true) (λ k. is k false) c.find.ensures.ran
    (λ x q k. search (rules, tests))
    (λ x q k. search (rules, tests))) in
    search (f, rules, tests)
