-- The equations of `blocks_from`: above them nothing looks at its count; and the loop that counts the blocks of a region.
-- Assumes nothing.
use mathlib.Core.Path.{◌≡◌, refl, sym, ap, ◌∙◌}
use mathlib.Core.List.{List}
use Prim.Native.Nat.{ℕ, zero, suc, ◌+◌, ◌-◌, ◌*◌, ◌/◌, ◌≤◌, ◌<◌}
use native.Mathlib.Omega.{arith}
use borrow.Author.Tests.{le-leb, lt-leb, leb-true}
use lib.Dec.{leb}
use Rattle.text.specs.Result.{Result, ok, error}
use Rattle.text.proofs.TestLaws.{either}
use Rattle.text.proofs.ResultLaws.{check_passed}
use Rattle.reader.specs.Blocks.{block_end, next_block, block_at, blocks_count, blocks_from, blocks}
use Rattle.reader.specs.Stages.Blocks.{HasBlock, IsRegion}

module _ (size : ℕ) (b : List ℕ) where
  pub next_after : (i : ℕ) → block_end size b i ≤ next_block size b i
  unfolding next_block
  next_after i = omega arith

  pub next_past : (i : ℕ) → i + 4 ≤ next_block size b i
  next_past i = omega (arith, next_after i)

  count_end : (f i e n : ℕ) → e < i + 4 → blocks_count f size b i e n ≡ ok n
  unfolding blocks_count
  count_end zero i e n h = refl
  count_end (suc f) i e n h = simp (lt-leb (i + 4) e h)

  -- any count that is large enough gives the same
  same : (f g i e n : ℕ) → e - i ≤ f → e - i ≤ g → blocks_count f size b i e n ≡ blocks_count g size b i e n
  unfolding blocks_count
  same zero g i e n hf hg = sym (count_end g i e n (omega arith))
  same (suc f) zero i e n hf hg = count_end (suc f) i e n (omega arith)
  same (suc f) (suc g) i e n hf hg =
      either (leb (i + 4) e)
      (λ t. either (leb (block_end size b i) e)
      (λ u. let p = leb-true (i + 4) e t in simp (t, u) (same f g (next_block size b i) e (n + 1) (omega (arith, next_past i)) (omega (arith, next_past i))))
      (λ u. simp (t, u)))
      (λ t. simp t)

  pub blocks_end : (i e n : ℕ) → e < i + 4 → blocks_from size b i e n ≡ ok n
  unfolding blocks_from
  blocks_end i e n h = count_end (e - i) i e n h

  module _ (i e n : ℕ) (h : i + 4 ≤ e) where
    more : e - i ≡ suc (e - suc i)
    more = omega arith

    pub blocks_more : block_end size b i ≤ e → blocks_from size b i e n ≡ blocks_from size b (next_block size b i) e (n + 1)
    unfolding blocks_from blocks_count
    blocks_more k =
        rw more
        (simp (le-leb (i + 4) e h, le-leb (block_end size b i) e k)
        (same (e - suc i) (e - next_block size b i) (next_block size b i) e (n + 1) (omega (arith, next_past i)) (omega arith)))

    blocks_cut : e < block_end size b i → blocks_from size b i e n ≡ error (record { number = 7; place = i })
    unfolding blocks_from blocks_count
    blocks_cut k = rw more (simp (le-leb (i + 4) e h, lt-leb (block_end size b i) e k))

  -- block k + 1 from i on is block k from the next block on
  block_at_next : (i k : ℕ) → block_at size b i (suc k) ≡ block_at size b (next_block size b i) k
  unfolding block_at
  block_at_next i zero = refl
  block_at_next i (suc k) = ap (next_block size b) (block_at_next i k)

  -- where more than m blocks are counted, block m lies before e
  count_more : (f i e m n : ℕ) → blocks_count (suc f) size b i e m ≡ ok n → m < n → (block_end size b i ≤ e) × (blocks_count f size b (next_block size b i) e (m + 1) ≡ ok n)
  unfolding blocks_count
  count_more f i e m n w h =
      either (leb (i + 4) e)
      (λ t. let p = check_passed 7 (leb (block_end size b i) e) i (blocks_count f size b (next_block size b i) e (m + 1)) (rw t at w) in
      (leb-true (block_end size b i) e p.0, p.1))
      (λ t. let v : ◌≡◌ {A = Result ℕ} (ok m) (ok n) = rw t at w in
      let z : m ≡ n = cc in
      absurd (omega arith))

  count_inside : (f i e m n k : ℕ) → blocks_count f size b i e m ≡ ok n → m + k < n → block_end size b (block_at size b i k) ≤ e
  unfolding blocks_count block_at
  count_inside zero i e m n k w h =
      let z : m ≡ n = cc in
      absurd (omega arith)
  count_inside (suc f) i e m n zero w h = (count_more f i e m n w (omega arith)).0
  count_inside (suc f) i e m n (suc k) w h =
      rw (block_at_next i k)
      (count_inside f (next_block size b i) e (m + 1) n k (count_more f i e m n w (omega arith)).1 (omega arith))

  -- where check 7 holds for n blocks, each of them lies in its region
  pub blocks_inside : (i e : ℕ) {n : ℕ} → blocks size b i e ≡ ok n → (k : ℕ) → k < n → block_end size b (block_at size b i k) ≤ e
  unfolding blocks_from
  blocks_inside i e {n} w k h = count_inside (e - i) i e 0 n k w (omega arith)

-- n blocks begin before i
pub record Counting (size : ℕ) (b : List ℕ) (start e n i : ℕ) : Type 0 where
  pub few : n ≤ i
  pub most : i ≤ 16777224
  pub rest : blocks size b start e ≡ blocks_from size b i e n

module _ {size : ℕ} {b : List ℕ} {start e : ℕ} (region : IsRegion b start e size) where
  module _ {n i : ℕ} (c : Counting size b start e n i) where
    module _ {r l : ℕ} (left : r ≡ e - i) (room : 4 ≤ r) (last : l ≡ block_end size b i) where
      pub count_turn : {k : ℕ} → l ≤ e → k ≡ (l + 7) / 8 * 8 → Counting size b start e (n + 1) k
      unfolding next_block
      count_turn {k} h w =
          let x : k ≡ next_block size b i = rw (← last) w in
          let p = next_past size b i in
          record { few = omega arith; most = omega arith; rest = rw x (c.rest ∙ blocks_more size b i e n (omega arith) (omega arith)) }

      pub count_stop : e < l → error (record { number = 7; place = i }) ≡ blocks size b start e
      count_stop h = sym (c.rest ∙ blocks_cut size b i e n (omega arith) (omega arith))

    pub count_last : {r : ℕ} → r ≡ e - i → r < 4 → ok n ≡ blocks size b start e
    count_last w h = sym (c.rest ∙ blocks_end size b i e n (omega arith))

-- ---- blocks by their distance

module _ (size : ℕ) (b : List ℕ) where
  -- block k after block j is block j + k
  pub block_sum : (i j k : ℕ) → block_at size b (block_at size b i j) k ≡ block_at size b i (j + k)
  unfolding block_at
  block_sum i j zero =
      let z : j + 0 ≡ j = omega arith in
      rw z
  block_sum i j (suc k) =
      let z : j + suc k ≡ suc (j + k) = omega arith in
      rw z (ap (next_block size b) (block_sum i j k))

  block_far : (i k : ℕ) → i + 4 * k ≤ block_at size b i k
  unfolding block_at
  block_far i zero = omega arith
  block_far i (suc k) = omega (arith, block_far i k, next_past size b (block_at size b i k))

  -- a block has at least the 4 bytes of its count
  pub blocks_few : (i e n : ℕ) → blocks size b i e ≡ ok n → 4 * n ≤ e - i
  blocks_few i e zero w = omega arith
  blocks_few i e (suc m) w = omega (arith, blocks_inside size b i e w m (omega arith), block_far i m)

-- a region's blocks are whole from any of them on
pub block_from : {size : ℕ} {b : List ℕ} {start m i : ℕ} → HasBlock size b start m → (j : ℕ) → i ≡ block_at size b start j → {n : ℕ} → j + n ≡ m → HasBlock size b i n
block_from {size} {b} {start} has j e s = record {
  most = has.most;
  small = has.small;
  inside = λ k l. rw (e, block_sum size b start j k) (has.inside (j + k) (omega arith));
}
