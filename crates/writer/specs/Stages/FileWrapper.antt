-- What the private stages of writing a blob promise each other, and the parts of it that they write.
-- Assumes nothing.
use Rattle.std.specs.Prelude.{ℕ, ◌<◌, ◌≡◌, List, ◌∷◌, ◌++◌, Ok, Err, Result as Reply}
use Rattle.text.specs.declared.error.MatError.{MatError}
use Rattle.text.specs.declared.error.MatError.TheVariants.{LimitExceeded}
use Rattle.writer.specs.FileWrapper.{SavedBlocks, u32s, name_heap, class_entries, zero_entry, regions, offsets_from}
use Rattle.writer.specs.declared.file_wrapper.ObjectCount.{ObjectCount}

-- what stands before the entries in the blob for n objects
unfoldable pub file_head : ℕ → List ℕ
file_head n = u32s (4 ∷ 2 ∷ offsets_from 56 (regions n)) ++ (name_heap ++ class_entries) ++ u32s (zero_entry SavedBlocks)

-- 32 of n objects: a count of so many, or the refusal
abbrev pub CountsObjects : ℕ → Reply ObjectCount MatError → Type 0
CountsObjects n (Ok c) = c.n ≡ n
CountsObjects n (Err e) = (349522 < n) × (e ≡ LimitExceeded n)
