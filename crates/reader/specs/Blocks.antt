-- Property blocks: "A block is a count, that many triples, then a step up to a multiple of 8 counted from the blob's start; a block begins
-- while 4 bytes remain." The size of an entry is an argument: 12 for triples.
-- Assumes nothing.
use Rattle.std.specs.Prelude.{ℕ, ◌+◌, ◌*◌, ◌/◌, zero, suc, ◌-◌, cond, List, leb}
use Rattle.text.specs.Result.{Result, ok, check, ◌>>◌}
use Rattle.reader.specs.Wire.{u32_at}

-- the end of the block at i: its count and "that many triples"
abbrev pub block_end : ℕ → List ℕ → ℕ → ℕ
block_end size b i = i + 4 + size * u32_at b i

-- "then a step up to a multiple of 8 counted from the blob's start": where the block after that at i may begin
unfoldable pub next_block : ℕ → List ℕ → ℕ → ℕ
next_block size b i = (block_end size b i + 7) / 8 * 8

-- where block k of the region that begins at i begins
unfoldable pub block_at : ℕ → List ℕ → ℕ → ℕ → ℕ
block_at size b i zero = i
block_at size b i (suc k) = next_block size b (block_at size b i k)

-- 7: the number of blocks from i up to e, n of them before; the recursion counts down what is left, which no law outside proofs/blocks/Laws.antt
-- sees
unfoldable pub blocks_count : ℕ → ℕ → List ℕ → ℕ → ℕ → ℕ → Result ℕ
blocks_count zero size b i e n = ok n
blocks_count (suc f) size b i e n =
    cond (leb (i + 4) e) (check 7 (leb (block_end size b i) e) i >> blocks_count f size b (next_block size b i) e (n + 1)) (ok n)

-- 7 for the bytes from i up to e, with n blocks before: how many blocks there are, or the first that is not whole
unfoldable pub blocks_from : ℕ → List ℕ → ℕ → ℕ → ℕ → Result ℕ
blocks_from size b i e n = blocks_count (e - i) size b i e n

-- 7: "Is every property block whole", for the region from i up to e
abbrev pub blocks : ℕ → List ℕ → ℕ → ℕ → Result ℕ
blocks size b i e = blocks_from size b i e 0
