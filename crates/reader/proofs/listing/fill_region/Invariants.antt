-- What the loop of `reader::listing::fill_region` keeps.
-- Assumes nothing.
use Rattle.reader.proofs.listing.Index.{Filling}
use Rattle.reader.proofs.listing.fill_region.Given as goal

abbrev pub invariant-loop-j : goal.invariant-loop-j
invariant-loop-j l = Filling l.plan l.fn.region l.initial.index l.index l.cursor l.j
