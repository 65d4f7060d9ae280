-- Check 33: what it means, and the walk over the cells that decides it.
-- Assumes nothing.
use Prim.Native.Nat.{ℕ, zero, suc, ◌+◌, ◌*◌, ◌<◌}
use mathlib.Core.Path.{◌≡◌, refl, sym, ap, ap₂, ◌∙◌}
use mathlib.Core.Bool.{Bool, true, ◌&&◌}
use mathlib.Core.List.{List, [], ◌∷◌, ◌++◌, map, flat_map}
use mathlib.Core.Logic.{◌↔◌}
use native.Mathlib.Numerals.{add-one}
use native.Mathlib.Omega.{arith}
use borrow.Author.Tests.{le-leb, eq-eqb, eqb-true}
use lib.Dec.{eqb}
use lib.ListN.{length, take, drop, replicate, length-take, length-drop, length-map, take-append-drop}
use lib.Seq.{drop-drop, drop-cons, drop-length, take-length}
use Rattle.std.specs.Cmp.{both_ways}
use Rattle.std.specs.List.{list_all}
use Rattle.text.specs.Buffer.{same}
use Rattle.text.proofs.SameLaws.{same_is, same_refl}
use Rattle.text.proofs.TestLaws.{and_is}
use Rattle.writer.specs.Array.{Array, payload, payloads, payload_spans}
use Rattle.writer.specs.FileWrapper.{file_wrapper, is_file_wrapper}
use Rattle.writer.specs.Spans.{offset_at, length_at, string_at, strings_from, spans_from}
use Rattle.writer.proofs.LayoutLaws.{span_offset, span_end}
use Rattle.writer.proofs.StringWordLaws.{length_strings}
use Rattle.reader.specs.Saveobj.{decoded_array, is_canonical_payload}
use Rattle.reader.proofs.saveobj.Canonical.{canonical_is, canonical_accepted}
use Rattle.store.specs.Store.{Store, store_of, serialize, cells, stored_arrays, every, same_store, is_canonical}
use Rattle.store.specs.Stages.{cells_walk, CellsInside, CutChecked}
use Rattle.store.proofs.StoreLaws.{AllAccepted, both, same_store_refl, stored_are, serialized_canonical}

pub store_path : {o o' b b' u u' : ℕ} {bs bs' ds ds' ks ks' ws ws' : List ℕ} → o ≡ o' → b ≡ b' → u ≡ u' → bs ≡ bs' → ds ≡ ds' → ks ≡ ks' → ws ≡ ws'
    → store_of o b u bs ds ks ws ≡ store_of o' b' u' bs' ds' ks' ws'
store_path o b u bs ds ks ws = cc

pub same_store_is : (s t : Store) → same_store s t ≡ true → s ≡ t
same_store_is s t e =
    let words = and_is _ (same s.words t.words) e in
    let kinds = and_is _ (same s.kinds t.kinds) words.0 in
    let directory = and_is _ (same s.directory t.directory) kinds.0 in
    let blob = and_is _ (same s.blob t.blob) directory.0 in
    let used = and_is _ (eqb s.used_words t.used_words) blob.0 in
    let counts = and_is (eqb s.objects t.objects) (eqb s.blob_bytes t.blob_bytes) used.0 in
    store_path (eqb-true s.objects t.objects counts.0) (eqb-true s.blob_bytes t.blob_bytes counts.1) (eqb-true s.used_words t.used_words used.1)
    (same_is s.blob t.blob blob.1) (same_is s.directory t.directory directory.1) (same_is s.kinds t.kinds kinds.1) (same_is s.words t.words words.1)

-- ---- the walk over the cells

-- what it finds: from pair i and word at on, the arrays of the n cells
record Found (d w : List ℕ) (i n at : ℕ) : Type 0 where
  canonical : every is_canonical_payload (strings_from w d i n) ≡ true
  pairs : drop (2 * i) d ≡ payload_spans at (map decoded_array (strings_from w d i n))
  rest : drop at w ≡ payloads (map decoded_array (strings_from w d i n))

module _ (d w : List ℕ) (n : ℕ) (c : CellsInside d (length w) n) where
  walk_found : (k i at : ℕ) → i + k ≡ n → cells_walk d w i k at ≡ true → Found d w i k at
  unfolding cells_walk strings_from payloads spans_from flat_map
  walk_found zero i at h e =
      let z : 2 * i ≡ length d = omega (arith, c.pairs) in
      record { canonical = refl; pairs = rw z (drop-length d); rest = rw (eqb-true at (length w) e) (drop-length w) }
  walk_found (suc k) i at h e =
      let p : List ℕ = string_at w d i in
      let starts = and_is (eqb (offset_at d i) at) _ e in
      let holds = and_is (is_canonical_payload p) _ starts.1 in
      let o : offset_at d i ≡ at = eqb-true (offset_at d i) at starts.0 in
      let r = walk_found k (suc i) (at + length_at d i) (omega arith) holds.1 in
      let is : payload (decoded_array p) ≡ p = canonical_is p holds.0 in
      let l : length p ≡ length_at d i = rw (length-take, length-drop) (omega (arith, c.inside i (omega arith))) in
      let two : 2 * suc i ≡ suc (2 * i + 1) = omega arith in
      let q : drop (2 * i) d ≡ offset_at d i ∷ length_at d i ∷ drop (2 * suc i) d =
      rw (drop-cons d (2 * i) 0 (omega (arith, c.pairs)), drop-cons d (suc (2 * i)) 0 (omega (arith, c.pairs)), ← add-one (2 * i), two) in
      let t : drop at w ≡ p ++ drop (at + length_at d i) w =
      rw o (sym (take-append-drop (length_at d i) (drop at w)) ∙ ap (λ (x : List ℕ). take (length_at d i) (drop at w) ++ x) (drop-drop (length_at d i) at w)) in
      record {
        canonical = both (is_canonical_payload p) _ holds.0 r.canonical;
        pairs = q ∙ rw (is, l, o) (ap (λ (x : List ℕ). at ∷ length_at d i ∷ x) r.pairs);
        rest = t ∙ rw is (ap (λ (x : List ℕ). p ++ x) r.rest);
      }

-- a serialization walks through where its cells are canonical
serialized_walks : (xs : List Array) (k i : ℕ) → i + k ≡ length xs → every is_canonical_payload (strings_from (payloads xs) (payload_spans 0 xs) i k) ≡ true
    → cells_walk (payload_spans 0 xs) (payloads xs) i k (length (payloads (take i xs))) ≡ true
unfolding cells_walk strings_from
serialized_walks xs zero i h e =
    let z : i ≡ length xs = omega arith in
    rw (z, take-length xs) (eq-eqb (length (payloads xs)) (length (payloads xs)) refl)
serialized_walks xs (suc k) i h e =
    let l : i < length xs = omega arith in
    let p = and_is (is_canonical_payload (string_at (payloads xs) (payload_spans 0 xs) i)) _ e in
    let o : offset_at (payload_spans 0 xs) i ≡ length (payloads (take i xs)) = omega (arith, span_offset 0 xs i l) in
    let n : length (payloads (take i xs)) + length_at (payload_spans 0 xs) i ≡ length (payloads (take (suc i) xs)) = omega (arith, o, span_end 0 xs i l) in
    both (eqb (offset_at (payload_spans 0 xs) i) (length (payloads (take i xs)))) _ (eq-eqb _ _ o)
    (both (is_canonical_payload (string_at (payloads xs) (payload_spans 0 xs) i)) _ p.0 (rw n (serialized_walks xs k (suc i) (omega arith) p.1)))

-- ---- check 33 by its parts, for a store that is cut to its counts, once 13 holds

zeros : (ks : List ℕ) (n : ℕ) → length ks ≡ n → list_all (λ k. eqb k 0) ks ≡ same ks (replicate n 0)
unfolding same
zeros [] zero e = refl
zeros [] (suc n) e = absurd (omega arith)
zeros (k ∷ ks) zero e = absurd (omega arith)
zeros (k ∷ ks) (suc n) e = ap (λ (b : Bool). eqb k 0 && b) (zeros ks n (omega arith))

module _ (s : Store) (c : CutChecked s) where
  abbrev xs : List Array
  xs = stored_arrays s

  arrays : length xs ≡ s.objects
  arrays = length-map (cells s) decoded_array ∙ length_strings s.words s.directory 0 s.objects

  by_parts : Bool
  by_parts = same s.blob (file_wrapper s.objects) && (same s.kinds (replicate s.objects 0) && cells_walk s.directory s.words 0 s.objects 0)

  parts_canonical : by_parts ≡ true → is_canonical s ≡ true
  unfolding by_parts is_canonical
  parts_canonical e =
      let p = and_is (same s.blob (file_wrapper s.objects)) _ e in
      let q = and_is (same s.kinds (replicate s.objects 0)) _ p.1 in
      let f = walk_found s.directory s.words s.objects c.cells s.objects 0 0 (omega arith) q.1 in
      let bs : s.blob ≡ file_wrapper s.objects = same_is s.blob (file_wrapper s.objects) p.0 in
      let is : s ≡ serialize xs =
      store_path (sym arrays) (sym c.cut.blob ∙ rw arrays (ap length bs)) (sym c.cut.words ∙ ap length f.rest) (rw arrays bs) f.pairs
      (rw arrays (same_is s.kinds (replicate s.objects 0) q.0)) f.rest in
      both (every is_canonical_payload (cells s)) (same_store s (serialize xs)) f.canonical
      (ap (λ (t : Store). same_store s t) (sym is) ∙ same_store_refl s)

  canonical_parts : is_canonical s ≡ true → by_parts ≡ true
  unfolding by_parts is_canonical payloads flat_map
  canonical_parts e =
      let p = and_is (every is_canonical_payload (cells s)) _ e in
      let is : s ≡ serialize xs = same_store_is s (serialize xs) p.1 in
      let bs : s.blob ≡ file_wrapper s.objects = rw arrays at (ap (λ (t : Store). t.blob) is) in
      let zs : s.kinds ≡ replicate s.objects 0 = rw arrays at (ap (λ (t : Store). t.kinds) is) in
      let ds : s.directory ≡ payload_spans 0 xs = ap (λ (t : Store). t.directory) is in
      let ws : s.words ≡ payloads xs = ap (λ (t : Store). t.words) is in
      both (same s.blob (file_wrapper s.objects)) _ (ap (λ (x : List ℕ). same x (file_wrapper s.objects)) bs ∙ same_refl (file_wrapper s.objects))
      (both (same s.kinds (replicate s.objects 0)) _ (ap (λ (x : List ℕ). same x (replicate s.objects 0)) zs ∙ same_refl (replicate s.objects 0))
      (ap₂ (λ (x y : List ℕ). cells_walk x y 0 s.objects 0) ds ws
      ∙ serialized_walks xs s.objects 0 (omega (arith, arrays)) (sym (ap₂ (λ (x y : List ℕ). every is_canonical_payload (strings_from y x 0 s.objects)) ds ws) ∙ p.0)))

  -- what the code looks at
  pub parts_are : is_canonical s ≡ (is_file_wrapper s.objects s.blob && (list_all (λ k. eqb k 0) s.kinds && cells_walk s.directory s.words 0 s.objects 0))
  unfolding by_parts is_file_wrapper
  parts_are = both_ways (is_canonical s) by_parts canonical_parts parts_canonical ∙ rw (zeros s.kinds s.objects c.cut.kinds, le-leb s.objects 349522 c.few)

-- ---- what check 33 means: there are accepted arrays whose serialization the store is, and they are those that its cells hold

accepted_cells : (ps : List (List ℕ)) → every is_canonical_payload ps ≡ true → AllAccepted (map decoded_array ps)
accepted_cells [] e i h = absurd (omega arith)
accepted_cells (p ∷ ps) e zero h = canonical_accepted p (and_is (is_canonical_payload p) _ e).0
accepted_cells (p ∷ ps) e (suc i) h = accepted_cells ps (and_is (is_canonical_payload p) _ e).1 i (omega arith)

module _ (s : Store) where
  pub canonical_means : (is_canonical s ≡ true) ↔ ((xs : List Array) × (AllAccepted xs × (s ≡ serialize xs)))
  unfolding is_canonical
  canonical_means = (
    λ e.
        let p = and_is (every is_canonical_payload (cells s)) _ e in
        (stored_arrays s, (accepted_cells (cells s) p.0, same_store_is s (serialize (stored_arrays s)) p.1)),
    λ h. ap is_canonical h.1.1 ∙ serialized_canonical h.0 h.1.0,
  )

  pub canonical_unique : (xs ys : List Array) → AllAccepted xs → AllAccepted ys → s ≡ serialize xs → s ≡ serialize ys → xs ≡ ys
  canonical_unique xs ys f g e h = sym (stored_are xs f) ∙ ap stored_arrays (sym e ∙ h) ∙ stored_are ys g
