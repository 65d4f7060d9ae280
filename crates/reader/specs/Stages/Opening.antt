-- What opening promises the later stages.
-- Assumes nothing.
use Rattle.std.specs.Prelude.{ℕ, ◌≤◌, ◌-◌, ◌/◌, ◌≡◌, List, length, get_or}
use Rattle.text.specs.Result.{ok}
use Rattle.reader.specs.Blocks.{blocks}
use Rattle.reader.specs.Opening.{offsets, opened}
use Rattle.reader.specs.Stages.Names.{heap_pieces}
use Rattle.reader.specs.declared.file_wrapper.FileWrapper.{FileWrapper}

-- checks 1 to 5 hold: the offsets are in order and inside the blob
pub record Ordered (b : List ℕ) (o : List ℕ) : Type 0 where
  pub is : o ≡ offsets b
  pub least : 40 ≤ length b
  pub most : length b ≤ 16777216
  pub heap : 40 ≤ get_or o 0 0
  pub classes : get_or o 0 0 ≤ get_or o 1 0
  pub saveobj : get_or o 1 0 ≤ get_or o 2 0
  pub records : get_or o 2 0 ≤ get_or o 3 0
  pub normalobj : get_or o 3 0 ≤ get_or o 4 0
  pub inside : get_or o 4 0 ≤ length b

-- what an opened blob promises the later stages: its regions lie inside it and in order, every declared name has its piece, and what was
-- counted is whole
pub record Opens (b : List ℕ) (w : FileWrapper) : Type 0 where
  pub is : opened b ≡ ok w
  pub most : length b ≤ 16777216
  pub names : w.names ≤ length (heap_pieces b (get_or w.offsets 0 0))
  pub classes : get_or w.offsets 0 0 ≤ get_or w.offsets 1 0
  pub saveobj : get_or w.offsets 1 0 ≤ get_or w.offsets 2 0
  pub records : get_or w.offsets 2 0 ≤ get_or w.offsets 3 0
  pub normalobj : get_or w.offsets 3 0 ≤ get_or w.offsets 4 0
  pub inside : get_or w.offsets 4 0 ≤ length b
  pub class_entries_lem : w.classes ≡ (get_or w.offsets 1 0 - get_or w.offsets 0 0) / 16
  pub object_records : w.records ≡ (get_or w.offsets 3 0 - get_or w.offsets 2 0) / 24
  pub saveobj_blocks : blocks 12 b (get_or w.offsets 1 0) (get_or w.offsets 2 0) ≡ ok w.saveobj_blocks
  pub normalobj_blocks : blocks 12 b (get_or w.offsets 3 0) (get_or w.offsets 4 0) ≡ ok w.normalobj_blocks
