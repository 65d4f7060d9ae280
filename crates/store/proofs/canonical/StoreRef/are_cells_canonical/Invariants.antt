-- What the loop of `store::canonical::StoreRef::are_cells_canonical` keeps.
-- Assumes nothing.
use Rattle.store.proofs.CheckLaws.{Walks}
use Rattle.store.proofs.canonical.StoreRef.are_cells_canonical.Given as goal

abbrev pub invariant-loop-i : goal.invariant-loop-i
invariant-loop-i l = Walks l.self.directory.now l.self.words.now l.self.counts.objects l.i l.end
