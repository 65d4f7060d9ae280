-- The index of blocks has room for both regions.
-- Assumes nothing.
use lib.ListN.{get_or}
use Prim.Native.Nat.{ℕ, ◌+◌, ◌*◌, ◌/◌, ◌≤◌, ◌<◌}
use native.Mathlib.Nat.{add-mul, div-mul-le_self, lt_of_mul-lt-mul_right}
use native.Mathlib.Omega.{arith}
use Rattle.reader.specs.Stages.Plan.{FitsIndex}
use Rattle.reader.specs.declared.file_wrapper.Metadata.{Metadata}
use Rattle.reader.proofs.blocks.Laws.{blocks_few}

module _ (m : Metadata) where
  pub few_blocks : m.w.saveobj_blocks + m.w.normalobj_blocks ≤ 16777216
  few_blocks =
      let w = m.w in
      let b = m.blob.now in
      omega (arith, m.opens, blocks_few 12 b (get_or w.offsets 1 0) (get_or w.offsets 2 0) w.saveobj_blocks m.opens.saveobj_blocks, blocks_few 12 b (get_or w.offsets 3 0) (get_or w.offsets 4 0) w.normalobj_blocks m.opens.normalobj_blocks)

  pub fits : (s : ℕ) → (m.w.saveobj_blocks + m.w.normalobj_blocks < 8190 * s) × (s ≤ m.w.saveobj_blocks + m.w.normalobj_blocks + 1)
      → FitsIndex m.w s (m.w.saveobj_blocks / s + 1)
  fits s room =
      let x = div-mul-le_self m.w.saveobj_blocks s in
      let y = div-mul-le_self m.w.normalobj_blocks s in
      let z = add-mul (m.w.saveobj_blocks / s) (m.w.normalobj_blocks / s) s in
      let l : m.w.saveobj_blocks / s + m.w.normalobj_blocks / s < 8190 = lt_of_mul-lt-mul_right s (omega (arith, x, y, z)) in
      record { least = omega arith; most = omega (arith, few_blocks); apart = omega arith; room = omega (arith, l) }
