-- `store::canonical::StoreRef::is_canonical` meets its contract.
-- Assumes nothing.
use mathlib.Core.Path.{◌∙◌}
use Rattle.store.proofs.CheckLaws.{other_blob, other_kinds, cells_decide}
use Rattle.store.proofs.canonical.StoreRef.is_canonical.Goals as goal
use Rattle.store.proofs.canonical.StoreRef.is_canonical.Goals.{then-is_string_filewrapper_metadata, else-is_string_filewrapper_metadata}

pub returns-then-are_zero : goal.returns-then-are_zero
returns-then-are_zero c = elim c.if-is_string_filewrapper_metadata.branch [
  | then-is_string_filewrapper_metadata w ↦
      cells_decide _ c.requires c.is_string_filewrapper_metadata.ensures w.if-is_string_filewrapper_metadata.true w.are_zero.ensures (cc) c.are_cells_canonical.ensures
  | else-is_string_filewrapper_metadata w ↦ cc
]

pub returns-else-are_zero : goal.returns-else-are_zero
returns-else-are_zero c = elim c.if-is_string_filewrapper_metadata.branch [
  | then-is_string_filewrapper_metadata w ↦
      w.value-is ∙ other_kinds _ c.requires c.is_string_filewrapper_metadata.ensures w.if-is_string_filewrapper_metadata.true w.are_zero.ensures (cc)
  | else-is_string_filewrapper_metadata w ↦ w.value-is ∙ other_blob _ c.requires c.is_string_filewrapper_metadata.ensures w.if-is_string_filewrapper_metadata.false
]
