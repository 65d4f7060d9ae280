-- What the reply about a cell says, and how the stages that read cells speak of a store.
-- Assumes nothing.
use Rattle.std.specs.Borrow.{Bor}
use Rattle.std.specs.Prelude.{ℕ, ◌≡◌, List, Result as Reply}
use Rattle.text.specs.Replies.{outcome}
use Rattle.text.specs.Result.{Result, map_result}
use Rattle.text.specs.declared.error.MatError.{MatError}
use Rattle.reader.specs.declared.cells.Cells.{Cells}

-- what a definition says of a store, where it takes the directory, the kinds and the words
abbrev pub of_cells : {A : Type 0} → (List ℕ → List ℕ → List ℕ → A) → Cells → A
of_cells f c = f c.directory.now c.kinds.now c.words.now

-- a reply with the words of a cell, which lie where they are lent
abbrev pub ReadsCell : Result (List ℕ) → Reply (Bor (List ℕ)) MatError → Type 0
ReadsCell m r = map_result (λ (words : Bor (List ℕ)). words.now) (outcome r) ≡ m
