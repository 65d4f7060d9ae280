-- What the index of blocks promises the stages of the object listing.
-- Assumes nothing.
use Rattle.std.specs.Prelude.{ℕ, ◌+◌, ◌/◌, ◌≤◌, ◌<◌}
use Rattle.reader.specs.declared.file_wrapper.FileWrapper.{FileWrapper}

-- an entry for each stride-th block: those of both regions have their places in the index
pub record FitsIndex (w : FileWrapper) (stride normalobj : ℕ) : Type 0 where
  pub least : 1 ≤ stride
  pub most : stride ≤ 16777217
  pub apart : w.saveobj_blocks / stride < normalobj
  pub room : normalobj + w.normalobj_blocks / stride < 8192
