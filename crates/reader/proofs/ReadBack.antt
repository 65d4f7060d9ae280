-- The canonical form of n arrays (01's written form: the built blob, payloads end to end, their spans, kinds 0) read by both roads: each id
-- gives the strings of its own array.
-- Assumes nothing.
use mathlib.Core.Path.{◌≡◌, sym, ap}
use mathlib.Core.Bool.{true}
use mathlib.Core.List.{List, [], ◌∷◌, append-nil}
use Prim.Native.Nat.{ℕ, zero, suc, ◌-◌, ◌/◌, ◌%◌, ◌≤◌, ◌<◌}
use native.Mathlib.Omega.{arith}
use borrow.Author.Tests.{le-leb, lt-ltb, eq-eqb}
use lib.ListN.{length, get_or, take, drop, replicate, length-replicate, get_or-replicate}
use lib.Seq.{drop-cons}
use Rattle.text.specs.Result.{ok}
use Rattle.text.proofs.ResultLaws.{each_holds}
use Rattle.text.proofs.SameLaws.{same_refl}
use Rattle.writer.specs.Array.{Array, no_array, Accepted, payload, payloads, payload_spans}
use Rattle.writer.specs.FileWrapper.{file_wrapper}
use Rattle.writer.specs.Spans.{offset_at, end_at}
use Rattle.writer.proofs.ArrayLaws.{array_passed}
use Rattle.writer.proofs.LayoutLaws.{length_payload_spans, payload_at, span_offset, span_end, payloads_within}
use Rattle.reader.specs.Cells.{lies_in, is_cell, check_directory, cell_at, cell_of}
use Rattle.reader.specs.Decode.{any_name, string_name, id_strings, ids_strings, metadata_strings, string_class, property_strings, triples_strings, object_strings}
use Rattle.reader.specs.Objects.{position}
use Rattle.reader.specs.Opaque.{opaque_metadata}
use Rattle.reader.specs.Saveobj.{decode_payload}
use Rattle.reader.specs.declared.opaque.OpaqueMetadata.{OpaqueMetadata}
use Rattle.reader.proofs.opaque.Laws.{opaque_passed}
use Rattle.reader.proofs.BuiltLaws.{built_opens, names_are, object_checked, class_is, triples_are}
use Rattle.reader.proofs.RoundTrip.{round_trip}

module _ {a : Array} (w : Accepted a) where
  small : length (payload a) ≤ 2097152
  small =
      let p = array_passed w.dims w.text w.spans w.is in
      rw p.is p.words

  pub accepted_decodes : decode_payload (payload a) ≡ ok a.strings
  accepted_decodes =
      let n = append-nil (payload a) in
      rw n at (round_trip w.dims w.text w.spans w.is [] (rw n small))

module _ (xs : List Array) (few : length xs ≤ 349522) where
  abbrev n : ℕ
  n = length xs

  abbrev directory : List ℕ
  directory = payload_spans 0 xs

  abbrev kinds : List ℕ
  kinds = replicate n 0

  abbrev words : List ℕ
  words = payloads xs

  cells : length directory / 2 ≡ n
  cells = omega (arith, length_payload_spans 0 xs)

  each_cell : (j : ℕ) → j < n → is_cell directory (length words) j ≡ true
  unfolding lies_in
  each_cell zero h =
      let e = span_end 0 xs 0 h in
      let k = payloads_within xs 1 in
      simp (le-leb 0 (offset_at directory 0) (omega arith), le-leb (end_at directory 0) (length words) (omega arith))
  each_cell (suc j) h =
      let e = span_end 0 xs (suc j) h in
      let k = payloads_within xs (suc (suc j)) in
      let b = span_end 0 xs j (omega arith) in
      let o = span_offset 0 xs (suc j) h in
      simp (le-leb (end_at directory j) (offset_at directory (suc j)) (omega arith), le-leb (end_at directory (suc j)) (length words) (omega arith))

  pub canonical_directory : check_directory directory kinds (length words) ≡ ok tt
  unfolding check_directory
  canonical_directory =
      let l = length_payload_spans 0 xs in
      let k = length-replicate {A = ℕ} n 0 in
      simp
      (eq-eqb (length directory % 2) 0 (omega arith), le-leb (length directory) 699044 (omega arith), eq-eqb (length kinds) (length directory / 2) (omega (arith, cells)))
      (rw cells (each_holds 13 (is_cell directory (length words)) n each_cell))

  -- entry j is array j's payload
  canonical_cell : (j place : ℕ) → j < n → cell_at directory kinds words j place ≡ ok (payload (get_or xs j no_array))
  unfolding cell_at
  canonical_cell j place h =
      simp (lt-ltb j (length directory / 2) (omega (arith, cells)), eq-eqb (get_or kinds j 0) 0 (get_or-replicate n j 0 0 h)) (ap ok (payload_at xs j h))

  module _ (id : ℕ) (least : 1 ≤ id) (most : id ≤ n) (w : Accepted (get_or xs (id - 1) no_array)) where
    id_decodes : id_strings directory kinds words id ≡ ok (get_or xs (id - 1) no_array).strings
    unfolding id_strings cell_of
    id_decodes = simp (le-leb 1 id least) (rw (canonical_cell (id - 1) id (omega arith)) (accepted_decodes w))

    -- by opaque metadata whose ids are this id, once
    pub canonical_first : (metadata : List ℕ) {m : OpaqueMetadata} → opaque_metadata metadata ≡ ok m → m.ids ≡ 1 → get_or metadata m.first_id 0 ≡ id
        → metadata_strings (file_wrapper n) directory kinds words metadata ≡ ok (get_or xs (id - 1) no_array).strings
    unfolding metadata_strings ids_strings
    canonical_first metadata {m} e one is =
        let t = (opaque_passed metadata (sym e)).there in
        let ids : take 1 (drop m.first_id metadata) ≡ id ∷ [] = rw (drop-cons metadata m.first_id 0 (omega (arith, one)), is) in
        rw (built_opens n few, canonical_directory, e, one, ids, id_decodes) (ap ok (append-nil (get_or xs (id - 1) no_array).strings))

    -- by its own property
    pub canonical_second : object_strings (file_wrapper n) directory kinds words id ≡ ok (get_or xs (id - 1) no_array).strings
    unfolding object_strings string_class triples_strings property_strings position
    canonical_second =
        rw (built_opens n few, canonical_directory, object_checked n few id least most, class_is n few id least most, same_refl string_name, triples_are n few id least most, (names_are n few).0, same_refl any_name)
        (rw (canonical_cell (id - 1) (id - 1) (omega arith)) (accepted_decodes w))
