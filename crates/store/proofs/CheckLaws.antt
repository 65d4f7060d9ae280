-- The outcomes of the checks of an edit.
-- Assumes nothing.
use Prim.Native.Nat.{ℕ, suc, ◌+◌, ◌-◌, ◌*◌, ◌/◌, ◌%◌, ◌≤◌, ◌<◌}
use mathlib.Core.Path.{◌≡◌, sym, ap, subst, ◌∙◌}
use mathlib.Core.Bool.{Bool, true, false, ◌&&◌}
use mathlib.Core.List.{List}
use native.Mathlib.Numerals.{add-one}
use native.Mathlib.Omega.{arith}
use borrow.Author.Tests.{le-leb, lt-leb, leb-true, eq-eqb, ne_eqb}
use lib.Dec.{leb, eqb}
use lib.ListN.{length, take, drop, length-take}
use lib.Seq.{length-take-le}
use Rattle.std.specs.Prelude.{Option, None, IsErr, Result as Reply}
use Rattle.std.specs.Result.{IsErrAnd}
use Rattle.std.specs.List.{list_all}
use Rattle.text.specs.Errors.{failure_of}
use Rattle.text.specs.Result.{ok, error, ◌>>◌}
use Rattle.text.specs.declared.error.Failure.{Failure}
use Rattle.text.specs.declared.error.MatError.{MatError}
use Rattle.text.specs.declared.error.MatError.TheVariants.{InvalidDirectory, LimitExceeded}
use Rattle.text.proofs.ResultLaws.{check_is, check_passed, check_each_passed, seq_passed}
use Rattle.text.proofs.TestLaws.{and_is, either}
use Rattle.writer.specs.FileWrapper.{is_file_wrapper}
use Rattle.writer.specs.Replies.{measured_payload}
use Rattle.writer.specs.Spans.{offset_at, length_at, string_at}
use Rattle.writer.proofs.ArrayLaws.{array_passed}
use Rattle.writer.proofs.string_object.Payload.{measured_passed}
use Rattle.reader.specs.Cells.{is_cell, check_directory}
use Rattle.reader.proofs.cells.Laws.{cell_within}
use Rattle.reader.specs.Saveobj.{is_canonical_payload}
use Rattle.store.specs.declared.array.StringArray.{StringArray}
use Rattle.store.specs.declared.canonical.StoreRef.{StoreRef}
use Rattle.store.specs.declared.checks.Accepted.{Accepted}
use Rattle.store.specs.declared.counts.Counts.{Counts}
use Rattle.store.specs.declared.edits.Edit.{Edit as Kind}
use Rattle.store.specs.declared.edits.Edit.TheVariants as kind
use Rattle.store.specs.Store.{Store, lengths_of, store_of, serialize, counted, cells, stored_arrays, every, is_canonical}
use Rattle.store.specs.Edits.{check_counts, check_counted, check_store, check_object_count, check_room}
use Rattle.store.specs.Model.{call}
use Rattle.store.specs.Replies.{edit_in}
use Rattle.store.proofs.CanonicalLaws.{same_store_is, parts_are}
use Rattle.store.proofs.ReplyLaws.{err_is}
use Rattle.store.proofs.CallLaws.{id_inside, call_is, old_within, words_of_are, words_with_are}
use Rattle.store.specs.Stages.{CellsInside, cells_walk, IsCut, CutChecked, Cut, CutTo, StoreChecked, ArrayChecked, check_id, IdInside, EditMeasured, array_lent, objects_after, words_with, counts_after, arrays_after, Passes, Decides}

-- ---- the counted part

module _ (s : Store) where
  past : (2 * s.objects ≤ length s.directory → s.objects ≤ length s.kinds → s.blob_bytes ≤ length s.blob → s.used_words ≤ length s.words → ⊥)
      → check_counts s ≡ error (failure_of (InvalidDirectory s.objects))
  unfolding check_counts
  past k =
      either (leb (2 * s.objects) (length s.directory))
      (λ d.
      either (leb s.objects (length s.kinds))
      (λ n.
      either (leb s.blob_bytes (length s.blob))
      (λ b.
      either (leb s.used_words (length s.words))
      (λ w.
      absurd (k (leb-true (2 * s.objects) (length s.directory) d) (leb-true s.objects (length s.kinds) n) (leb-true s.blob_bytes (length s.blob) b) (leb-true s.used_words (length s.words) w)))
      (λ w. simp (d, n, b, w)))
      (λ b. simp (d, n, b)))
      (λ n. simp (d, n)))
      (λ d. simp d)

  pub cut_none : {r : Option StoreRef} → r ≡ None
      → (2 * s.objects ≤ length s.directory → s.objects ≤ length s.kinds → s.blob_bytes ≤ length s.blob → s.used_words ≤ length s.words → ⊥) → CutTo s r
  cut_none e k = subst (CutTo s) (sym e) (past k)

-- the front of a list
pub record Front (xs : List ℕ) (n : ℕ) (ys : List ℕ) : Type 0 where
  pub fits : n ≤ length xs
  pub is : ys ≡ take n xs

-- as `get` gives it
pub front : (xs : List ℕ) {m n : ℕ} {ys : List ℕ} → (0 ≤ m) × (m ≤ length xs) × (ys ≡ take (m - 0) (drop 0 xs)) × (length ys + 0 ≡ m) → m ≡ n → Front xs n ys
front xs {m} f e =
    let z : m - 0 ≡ m = omega arith in
    record { fits = omega (arith, f.1); is = f.2 ∙ rw (z, e) }

module _ (o b u : ℕ) {bs ds ks ws bs' ds' ks' ws' : List ℕ} (f : Front bs b bs') (g : Front ds (2 * o) ds') (h : Front ks o ks') (i : Front ws u ws') where
  pub cut_some : Cut (store_of o b u bs ds ks ws) (store_of o b u bs' ds' ks' ws')
  unfolding check_counts
  cut_some = record {
    inside = simp (le-leb (2 * o) (length ds) g.fits, le-leb o (length ks) h.fits, le-leb b (length bs) f.fits, le-leb u (length ws) i.fits);
    is = rw (f.is, g.is, h.is, i.is);
    cut = record {
      blob = rw f.is (length-take-le b bs f.fits);
      pairs = rw g.is (length-take-le (2 * o) ds g.fits);
      kinds = rw h.is (length-take-le o ks h.fits);
      words = rw i.is (length-take-le u ws i.fits);
    };
  }

-- ---- the cells

pub record Walks (d w : List ℕ) (n i end : ℕ) : Type 0 where
  pub bound : i ≤ n
  pub inside : end ≤ length w
  pub rest : cells_walk d w 0 n 0 ≡ cells_walk d w i (n - i) end

module _ (d w : List ℕ) (n i end : ℕ) (v : Walks d w n i end) where
  next : i < n → cells_walk d w 0 n 0 ≡ eqb (offset_at d i) end && (is_canonical_payload (string_at w d i) && cells_walk d w (i + 1) (n - (i + 1)) (end + length_at d i))
  unfolding cells_walk
  next h =
      let e : n - i ≡ suc (n - (i + 1)) = omega arith in
      v.rest ∙ rw (e, add-one i)

  pub walks_apart : i < n → {start : ℕ} → start ≡ offset_at d i → (start ≡ end → ⊥) → false ≡ cells_walk d w 0 n 0
  walks_apart h e k = rw (next h, ne_eqb (offset_at d i) end (λ q. k (e ∙ q)))

  pub walks_last : n ≤ i → eqb end (length w) ≡ cells_walk d w 0 n 0
  unfolding cells_walk
  walks_last h =
      let e : n - i ≡ 0 = omega arith in
      rw (v.rest, e)

-- the cell that the walk looks at next
module _ (d w : List ℕ) (n i end : ℕ) (c : CellsInside d (length w) n) (v : Walks d w n i end) (h : i < n) {start len : ℕ} (s : start ≡ offset_at d i) (l : len ≡ length_at d i) where
  module _ (e : start ≡ end) {b : Bool} (p : b ≡ is_canonical_payload (take (start + len - start) (drop start w))) where
    cell_is : b ≡ is_canonical_payload (string_at w d i)
    cell_is =
        let m : start + len - start ≡ len = omega arith in
        rw (m, s, l) at p

    walk_is : cells_walk d w 0 n 0 ≡ b && cells_walk d w (i + 1) (n - (i + 1)) (start + len)
    walk_is =
        next d w n i end v h
        ∙ rw (eq-eqb (offset_at d i) end (sym s ∙ e), ← cell_is, ← l, ← e)

    pub walks_not : b ≡ false → false ≡ cells_walk d w 0 n 0
    walks_not k = rw (walk_is, k)

    pub walks_turn : b ≡ true → Walks d w n (i + 1) (start + len)
    walks_turn k = record { bound = omega arith; inside = omega (arith, c.inside i h); rest = walk_is ∙ rw k }

pub ruleset walking = (walks_apart, walks_last, walks_not, walks_turn)

-- ---- 33 and 13

module _ (s : Store) (c : CutChecked s) {b : Bool} (e : b ≡ is_file_wrapper s.objects s.blob) where
  pub other_blob : b ≡ false → b ≡ is_canonical s
  other_blob h = rw (parts_are s c, ← e, h)

  module _ (h : b ≡ true) {z : Bool} (f : z ≡ list_all (λ k. eqb k 0) s.kinds) where
    pub other_kinds : z ≡ false → z ≡ is_canonical s
    other_kinds k = rw (parts_are s c, ← e, h, ← f, k)

    pub cells_decide : z ≡ true → {r : Bool} → r ≡ cells_walk s.directory s.words 0 s.objects 0 → r ≡ is_canonical s
    cells_decide k m = rw (parts_are s c, ← e, h, ← f, k) m

-- 13 of a store that is cut
module _ (s : Store) (i : IsCut s) where
  pub cut_checked : {u : Unit {0}} → ok u ≡ check_directory s.directory s.kinds (length s.words) → CutChecked s
  unfolding check_directory
  cut_checked e =
      let n = length s.directory in
      let even = check_passed 13 (eqb (n % 2) 0) n _ (sym e) in
      let many = check_passed 13 (leb n 699044) n _ even.1 in
      let kinds = check_passed 13 (eqb (length s.kinds) (n / 2)) n _ many.1 in
      let half : n / 2 ≡ s.objects = omega (arith, i.pairs) in
      record {
        cut = i;
        few = omega (arith, i.pairs, leb-true n 699044 many.0);
        cells = record {
          pairs = i.pairs;
          inside =
              λ j h.
              cell_within s.directory (length s.words) j
              (check_each_passed 13 (is_cell s.directory (length s.words)) 0 (n / 2) kinds.1 j (omega arith) (omega arith));
        };
      }

-- ---- the checks of an edit

store_checked : (s : Store) → check_store s ≡ ok tt → StoreChecked s
unfolding check_store check_counted check_counts check_directory is_canonical
store_checked s e =
    let c = seq_passed (check_counts s) _ e in
    let d = seq_passed (check_directory (counted s).directory (counted s).kinds (length (counted s).words)) _ c.1.1 in
    let pairs = check_passed 13 (leb (2 * s.objects) (length s.directory)) s.objects _ c.1.0 in
    let kinds = check_passed 13 (leb s.objects (length s.kinds)) s.objects _ pairs.1 in
    let bytes = check_passed 13 (leb s.blob_bytes (length s.blob)) s.objects _ kinds.1 in
    let words = check_is 13 (leb s.used_words (length s.words)) s.objects bytes.1 in
    let inside : 2 * s.objects ≤ length s.directory = leb-true (2 * s.objects) (length s.directory) pairs.0 in
    let n = length (counted s).directory in
    let even = check_passed 13 (eqb (n % 2) 0) n _ d.1.0 in
    let many = check_passed 13 (leb n 699044) n _ even.1 in
    let canonical = and_is (every is_canonical_payload (cells (counted s))) _ (check_is 33 (is_canonical (counted s)) 0 d.1.1) in
    record {
      is = e;
      canonical = same_store_is (counted s) (serialize (stored_arrays (counted s))) canonical.1;
      few = omega (arith, leb-true n 699044 many.0, length-take (2 * s.objects) s.directory, inside);
      blob_inside = leb-true s.blob_bytes (length s.blob) bytes.0;
      directory_inside = inside;
      kinds_inside = leb-true s.objects (length s.kinds) kinds.0;
      words_inside = leb-true s.used_words (length s.words) words;
    }

pub old_inside : {s : Store} {k : Kind} → StoreChecked s → IdInside s.objects k → {id : ℕ} → k ≡ kind.Replace id → {j : ℕ} → j ≡ id - 1
    → length_at s.directory j ≤ s.used_words
old_inside {s} {k} t i {id} e j = rw j (old_within s (stored_arrays (counted s)) t.canonical id (rw e at i))

array_checked : (a : StringArray) {n : ℕ} → ok n ≡ measured_payload a.dims.now a.text.now a.spans.now → ArrayChecked a n
array_checked a {n} e =
    let p = measured_passed a.dims.now a.text.now a.spans.now e in
    record { is = p.0; long = sym p.1; most = omega (arith, p.1, (array_passed a.dims.now a.text.now a.spans.now p.0).words) }

-- what is left of the checks once the array is measured
module _ (s : Store) (k : Kind) (a : StringArray) {u v : Unit {0}} (e : ok u ≡ check_store s) (f : ok v ≡ check_id s.objects k)
    {n : ℕ} (g : ok n ≡ measured_payload a.dims.now a.text.now a.spans.now) where
  pub edit_measured : EditMeasured s k a n
  edit_measured = record { store = store_checked s (sym e); id = id_inside s.objects k (sym f); array = array_checked a g }

  left : call s (edit_in k a)
      ≡ (check_object_count (objects_after s.objects k)
      >> (check_room (lengths_of s) (objects_after s.objects k) (words_with s k n) >> ok (arrays_after (stored_arrays (counted s)) k (array_lent a))))
  left =
      let m : EditMeasured s k a n = edit_measured in
      let c = m.store.canonical in
      call_is s k a.dims.now a.text.now a.spans.now
      ∙ rw (← e, ← f, m.array.is, m.array.long, words_of_are s (stored_arrays (counted s)) c k m.id (array_lent a), words_with_are s (stored_arrays (counted s)) c k m.id (array_lent a))

  module _ {c : Counts} (is : c ≡ counts_after s k n) where
    pub many : 349522 < c.objects → call s (edit_in k a) ≡ error (failure_of (LimitExceeded c.objects))
    many h = left ∙ rw is (simp (lt-leb (objects_after s.objects k) 349522 (rw is at h)))

    module _ (few : c.objects ≤ 349522) where
      decided : call s (edit_in k a) ≡ (check_room (lengths_of s) c.objects c.words >> ok (arrays_after (stored_arrays (counted s)) k (array_lent a)))
      decided = left ∙ rw is (simp (le-leb (objects_after s.objects k) 349522 (rw is at few)))

      pub no_room : {q : Failure} → error q ≡ check_room (lengths_of s) c.objects c.words → call s (edit_in k a) ≡ error q
      no_room h = decided ∙ rw (← h)

      pub passes : {w : Unit {0}} → ok w ≡ check_room (lengths_of s) c.objects c.words → Passes s k a n c
      unfolding check_room
      passes h =
          let bytes : c.blob_bytes ≡ 144 + 48 * c.objects = ap (λ (d : Counts). d.blob_bytes) is ∙ ap (λ (d : Counts). 144 + 48 * d.objects) (sym is) in
          let blob = check_passed 34 (leb (144 + 48 * c.objects) (length s.blob)) _ _ (sym h) in
          let pairs = check_passed 34 (leb (2 * c.objects) (length s.directory)) _ _ blob.1 in
          let kinds = check_passed 34 (leb c.objects (length s.kinds)) _ _ pairs.1 in
          let words = check_is 34 (leb c.words (length s.words)) _ kinds.1 in
          record {
            measured = edit_measured;
            counts = is;
            answer = decided ∙ rw (← h);
            few = few;
            blob_fits = omega (arith, bytes, leb-true (144 + 48 * c.objects) (length s.blob) blob.0);
            directory_fits = leb-true (2 * c.objects) (length s.directory) pairs.0;
            kinds_fits = leb-true c.objects (length s.kinds) kinds.0;
            words_fit = leb-true c.words (length s.words) words;
          }

pub refused : (s : Store) (k : Kind) (a : StringArray) (r : Reply Accepted MatError) (e : MatError) → IsErr r × IsErrAnd r (λ y. y ≡ e)
    → call s (edit_in k a) ≡ error (failure_of e) → Decides s k a r
refused s k a r e p q = subst (Decides s k a) (sym (err_is r e p)) q
