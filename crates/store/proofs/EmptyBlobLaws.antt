-- A store whose counted blob has no bytes, however long its buffer is (document 02, P2): no edit of it is accepted.
-- Assumes nothing.
use mathlib.Core.Path.{◌≡◌, ap, ◌∙◌}
use mathlib.Core.Bool.{false}
use mathlib.Core.List.{[]}
use native.Mathlib.Omega.{arith}
use lib.ListN.{length}
use Rattle.text.specs.Result.{ok, error}
use Rattle.text.proofs.TestLaws.{either}
use Rattle.writer.proofs.FileWrapperLaws.{length_file_wrapper}
use Rattle.reader.specs.Cells.{check_directory}
use Rattle.store.specs.declared.edits.Edit.TheVariants as kind
use Rattle.store.specs.Store.{Store, serialize, counted, is_canonical}
use Rattle.store.specs.Edits.{check_counts, check_counted, check_store}
use Rattle.store.specs.Model.{Edit, append, replace, call}
use Rattle.store.proofs.CallLaws.{call_is}
use Rattle.store.proofs.CanonicalLaws.{canonical_means}

module _ (s : Store) (empty : s.blob_bytes ≡ 0) where
  -- the canonical form of n arrays has a blob of 144 + 48 n bytes
  not_canonical : is_canonical (counted s) ≡ false
  not_canonical =
      either (is_canonical (counted s))
      (λ t. let c = (canonical_means (counted s)).0 t in
      absurd (omega (arith, empty, ap (λ (x : Store). x.blob_bytes) c.1.1, length_file_wrapper (length c.0))))
      (λ t. t)

  -- "An edit of such a store that passes 13 still gives 33"
  module _ (counts : check_counts s ≡ ok tt)
      (pairs : check_directory (counted s).directory (counted s).kinds (length (counted s).words) ≡ ok tt) where
    store_refused : check_store s ≡ error (record { number = 33; place = 0 })
    unfolding check_store check_counted
    store_refused = rw (counts, pairs, not_canonical)

    pub empty_not_edited : (e : Edit) → call s e ≡ error (record { number = 33; place = 0 })
    empty_not_edited (append dims text spans) = call_is s kind.Append dims text spans ∙ rw store_refused
    empty_not_edited (replace id dims text spans) = call_is s (kind.Replace id) dims text spans ∙ rw store_refused

-- "so what is promised of edited stores starts, as before, from the 144-byte blob"
pub starts_built : length (serialize []).blob ≡ 144
starts_built = length_file_wrapper 0
