-- The index of the blocks of both regions, and the cursors of their walks.
-- Assumes nothing.
use mathlib.Core.Path.{◌≡◌, refl, ap, ◌∙◌}
use mathlib.Core.List.{List}
use Prim.Native.Nat.{ℕ, ◌+◌, ◌-◌, ◌*◌, ◌/◌, ◌≤◌, ◌<◌}
use native.Mathlib.Nat.{add-mul, mul-le-mul_right, div-mul-le_self, le-div_iff_mul-le, lt_of_mul-lt-mul_right}
use native.Mathlib.Omega.{arith}
use borrow.Author.Tests.{eqb-true, eqb-false}
use lib.Dec.{eqb}
use lib.ListN.{length, get_or, set, length-set}
use lib.Seq.{get_or-set_same, get_or-set_other}
use Rattle.std.specs.Int.{div_ceil}
use Rattle.std.proofs.lemmas.Grind.{div_ceil_times}
use Rattle.text.proofs.TestLaws.{either}
use Rattle.reader.specs.Blocks.{block_at}
use Rattle.reader.specs.Stages.Blocks.{HasBlock}
use Rattle.reader.specs.Stages.Listing.{first_entry, index_entry, IsEntry, Fills, IsCursor, cursor_at, cursor_from, cursor_of, with_cursor, first_cursors, AreCursors, EntryInside, Nearest, ToBlock, Indexes}
use Rattle.reader.specs.Objects.{region_start, region_blocks}
use Rattle.reader.specs.Stages.Objects.{number_of}
use Rattle.reader.specs.declared.file_wrapper.Metadata.{Metadata}
use Rattle.reader.specs.declared.listing.Cursor.{Cursor}
use Rattle.reader.specs.declared.plan.Plan.{Plan}
use Rattle.reader.specs.declared.objects.BlockId.{BlockId}
use Rattle.reader.specs.declared.objects.Region.{Region}
use Rattle.reader.specs.declared.objects.Region.TheVariants.{Saved, Normal}
use Rattle.reader.proofs.blocks.Laws.{block_sum, block_from}
use Rattle.reader.proofs.objects.Laws.{region_has}

-- ---- the cursors of either region

module _ {m : Metadata} {cs : List Cursor} where
  moved : AreCursors m cs → (g : Region) {c : Cursor} → IsCursor m.blob.now (region_start m.w (number_of g)) c
      → (h : Region) → IsCursor m.blob.now (region_start m.w (number_of h)) (cursor_of (with_cursor cs g c) h)
  moved a Saved {c} i Saved = rw (get_or-set_same cs 0 c _ (omega (arith, a.size))) i
  moved a Normal {c} i Normal = rw (get_or-set_same cs 1 c _ (omega (arith, a.size))) i
  moved a Saved {c} i Normal = rw (get_or-set_other cs 0 1 c _ (λ e. omega arith)) (a.are Normal)
  moved a Normal {c} i Saved = rw (get_or-set_other cs 1 0 c _ (λ e. omega arith)) (a.are Saved)

  pub region_with : AreCursors m cs → (g : Region) {c : Cursor} → IsCursor m.blob.now (region_start m.w (number_of g)) c → AreCursors m (with_cursor cs g c)
  region_with a g {c} i = record { size = length-set cs (number_of g) c ∙ a.size; are = moved a g i }

started : (m : Metadata) (g : Region) → IsCursor m.blob.now (region_start m.w (number_of g)) (cursor_of (first_cursors m.w) g)
unfolding block_at
started m Saved = record { is = refl }
started m Normal = record { is = refl }

pub cursors_start : {m : Metadata} {cs : List Cursor} → cs ≡ first_cursors m.w → AreCursors m cs
cursors_start {m} e = rw e (record { size = refl; are = started m })

-- ---- from a cursor to a block

module _ {b : List ℕ} {start : ℕ} {c : Cursor} (is : IsCursor b start c) {k : ℕ} (behind : c.block ≤ k) where
  pub cursor_has : HasBlock 12 b start k → HasBlock 12 b c.at (k - c.block)
  cursor_has has = block_from has c.block is.is (omega arith)

  cursor_there : cursor_from b c k ≡ cursor_at b start k
  cursor_there =
      let z : c.block + (k - c.block) ≡ k = omega arith in
      rw (is.is, block_sum 12 b start c.block (k - c.block), z)

-- ---- filling a region's entries

-- the walk stands at or before the block of entry j, and the entries before j are filled
pub record Filling (p : Plan) (g : Region) (index index' : List ℕ) (c : Cursor) (j : ℕ) : Type 0 where
  pub cursor : IsCursor p.metadata.blob.now (region_start p.metadata.w (number_of g)) c
  pub behind : c.block ≤ j * p.stride
  pub size : length index' ≡ 8192
  pub kept : (k : ℕ) → k < first_entry p g → get_or index' k 0 ≡ get_or index k 0
  pub entries : (i : ℕ) → i < j → IsEntry index' p g i

blocks_room : (p : Plan) (g : Region) → first_entry p g + region_blocks p.metadata.w (number_of g) / p.stride < 8192
blocks_room p Saved = omega (arith, p.fits.apart, p.fits.room)
blocks_room p Normal = omega (arith, p.fits.room)

module _ (p : Plan) (g : Region) where
  abbrev blob : List ℕ
  blob = p.metadata.blob.now

  -- the entries of the region: one for each stride that its blocks begin
  module _ {n : ℕ} (e : n ≡ region_blocks p.metadata.w (number_of g)) {m : ℕ} (d : m ≡ div_ceil n p.stride) where
    times : (region_blocks p.metadata.w (number_of g) ≤ m * p.stride) × (m * p.stride < region_blocks p.metadata.w (number_of g) + p.stride)
    times = rw (d, e) (div_ceil_times (region_blocks p.metadata.w (number_of g)) p.stride p.fits.least)

    below : {j : ℕ} → j < m → j * p.stride < region_blocks p.metadata.w (number_of g)
    below {j} h =
        let z = add-mul j 1 p.stride in
        let l : (j + 1) * p.stride ≤ m * p.stride = mul-le-mul_right p.stride (omega arith) in
        omega (arith, times, z, l)

    has_entry : {j : ℕ} → j * p.stride < region_blocks p.metadata.w (number_of g) → j < m
    has_entry {j} h = lt_of_mul-lt-mul_right p.stride (omega (arith, times))

    module _ {index index' : List ℕ} {c : Cursor} {j : ℕ} (f : Filling p g index index' c j) where
      module _ (h : j < m) where
        pub filling_has : HasBlock 12 blob c.at (j * p.stride - c.block)
        filling_has = cursor_has f.cursor f.behind (region_has p.metadata.opens g (below h))

        filling_room : {first : ℕ} → first ≡ first_entry p g → first + j < 8192
        filling_room q =
            let l = (le-div_iff_mul-le {x = j} {y = region_blocks p.metadata.w (number_of g)} p.fits.least).1 (omega (arith, below h)) in
            omega (arith, blocks_room p g, l)

        module _ {c' : Cursor} (there : c' ≡ cursor_from blob c (j * p.stride)) where
          is_there : c' ≡ cursor_at blob (region_start p.metadata.w (number_of g)) (j * p.stride)
          is_there = there ∙ cursor_there f.cursor f.behind

          pub filling_turn : {first : ℕ} → first ≡ first_entry p g → Filling p g index (set index' (first + j) c'.at) c' (j + 1)
          unfolding index_entry
          filling_turn {first} q =
              let at_block : c'.at ≡ block_at 12 blob (region_start p.metadata.w (number_of g)) (j * p.stride) = ap (λ (x : Cursor). x.at) is_there in
              let z : c'.block ≡ j * p.stride = ap (λ (x : Cursor). x.block) is_there in
              let y = add-mul j 1 p.stride in
              let room : first + j < length index' = omega (arith, f.size, filling_room q) in
              record {
                cursor = record { is = rw z at_block };
                behind = omega (arith, z, y);
                size = rw length-set f.size;
                kept = λ k l. get_or-set_other index' (first + j) k c'.at 0 (λ (w : k ≡ first + j). omega (arith, q, w, l)) ∙ f.kept k l;
                entries = λ i l. either (eqb i j)
                    (λ t. let y : i ≡ j = eqb-true i j t in rw (y, ← q) (get_or-set_same index' (first + j) c'.at 0 room ∙ at_block))
                    (λ t. let y : i ≡ j → ⊥ = eqb-false i j t in get_or-set_other index' (first + j) (first_entry p g + i) c'.at 0 (λ (w : first_entry p g + i ≡ first + j). y (omega (arith, q, w))) ∙ f.entries i (omega (arith, y)));
              }

      pub filling_last : m ≤ j → Fills p g index index'
      filling_last h = record { size = f.size; kept = f.kept; entries = λ i l. f.entries i (omega (arith, has_entry l)) }

-- ---- both regions

pub index_filled : {p : Plan} {index one two : List ℕ} → Fills p Saved index one → Fills p Normal one two → Indexes p two
unfolding index_entry
index_filled {p} {one = one} {two = two} f s = record { size = s.size; entries = entries }
  where
    entries : (g : Region) (j : ℕ) → j * p.stride < region_blocks p.metadata.w (number_of g) → IsEntry two p g j
    entries Saved j h =
        let d = (le-div_iff_mul-le {x = j} {y = p.metadata.w.saveobj_blocks} p.fits.least).1 (omega (arith, h)) in
        s.kept (0 + j) (omega (arith, d, p.fits.apart)) ∙ f.entries j h
    entries Normal j h = s.entries j h

-- ---- the walk to a block

module _ (p : Plan) {cs : List Cursor} {k : BlockId} (to : ToBlock p.metadata cs k) where
  pub block_near : EntryInside p k
  block_near =
      let n = region_blocks p.metadata.w (number_of k.region) in
      let l : k.id / p.stride ≤ n / p.stride = (le-div_iff_mul-le {x = k.id / p.stride} {y = n} p.fits.least).1 (omega (arith, div-mul-le_self k.id p.stride, to.below)) in
      omega (arith, l, blocks_room p k.region)

  module _ {index : List ℕ} (indexes : Indexes p index) {c : Cursor} (near : Nearest index p cs k c) where
    near_is : IsCursor p.metadata.blob.now (region_start p.metadata.w (number_of k.region)) c
    near_is =
        let l : k.id / p.stride * p.stride < region_blocks p.metadata.w (number_of k.region) = omega (arith, div-mul-le_self k.id p.stride, to.below) in
        near.is p.metadata.blob.now (region_start p.metadata.w (number_of k.region)) (to.cursors.are k.region) (indexes.entries k.region (k.id / p.stride) l)

    pub near_has : HasBlock 12 p.metadata.blob.now c.at (k.id - c.block)
    near_has = cursor_has near_is near.behind (region_has p.metadata.opens k.region to.below)

    pub block_found : {r : Cursor} → r ≡ cursor_from p.metadata.blob.now c k.id → r ≡ cursor_at p.metadata.blob.now (region_start p.metadata.w (number_of k.region)) k.id
    block_found e = e ∙ cursor_there near_is near.behind
