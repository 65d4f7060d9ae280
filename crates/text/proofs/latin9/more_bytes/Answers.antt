-- `text::latin9::more_bytes` meets its contract: the sizes of all 256 characters, by one test.
-- Assumes nothing.
use native.Mathlib.Omega.{arith}
use borrow.Author.Tests.{lt-ltb, le-ltb, eq-eqb, ne_eqb}
use Rattle.text.proofs.latin9.Import.{character_size}
use Rattle.text.proofs.latin9.more_bytes.Goals as goal

pub returns-then-byte-lt128 : goal.returns-then-byte-lt128
returns-then-byte-lt128 c = (simp (lt-ltb _ _ c.if-byte-lt128.true) at (character_size c.args.byte c.ranges.byte.fits), omega arith)

pub returns-then-byte-eq164 : goal.returns-then-byte-eq164
returns-then-byte-eq164 c = (simp (le-ltb _ _ c.if-byte-lt128.false, eq-eqb _ _ c.if-byte-eq164.true) at (character_size c.args.byte c.ranges.byte.fits), omega arith)

pub returns-else-byte-eq164 : goal.returns-else-byte-eq164
returns-else-byte-eq164 c = (simp (le-ltb _ _ c.if-byte-lt128.false, ne_eqb _ _ c.if-byte-eq164.false) at (character_size c.args.byte c.ranges.byte.fits), omega arith)
