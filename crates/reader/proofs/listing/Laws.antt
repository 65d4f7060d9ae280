-- The listing of objects: its checks, its steps, and the rows that it writes.
-- Assumes nothing.
use mathlib.Core.Path.{◌≡◌, refl, sym, ap, ◌∙◌, subst}
use mathlib.Core.Bool.{true, false}
use mathlib.Core.List.{List, [], ◌∷◌}
use Prim.Native.Nat.{ℕ, zero, suc, ◌+◌, ◌-◌, ◌^◌, ◌≤◌, ◌<◌, min}
use native.Mathlib.Numerals.{add-one}
use native.Mathlib.Omega.{arith}
use borrow.Author.Tests.{le-leb, lt-leb, leb-true}
use lib.Dec.{leb}
use lib.ListN.{length, get_or, set}
use Rattle.std.specs.Prelude.{Ok, Err}
use Rattle.text.specs.Result.{Result, ok, error, map_result, need_place, values_of, ◌>>◌, ◌>>=◌}
use Rattle.text.specs.declared.error.MatError.TheVariants.{OutputTooShort}
use Rattle.text.proofs.ResultLaws.{same_value, seq_passed, bind_passed}
use Rattle.text.proofs.TestLaws.{clash, either}
use Rattle.reader.specs.Blocks.{block_end, block_at}
use Rattle.reader.specs.Stages.Listing.{check_objects, all_objects, first_cursors, cursor_at, with_cursor, AreCursors, ToBlock, Listable, ListingFor, ToNext, NextObject}
use Rattle.reader.specs.Objects.{region_start, region_blocks, check_block, object_row, record_row, object_of, objects_from, object_rows, no_row}
use Rattle.reader.specs.Stages.Objects.{number_of, block_of, row_from}
use Rattle.reader.specs.Stages.Opening.{Opens}
use Rattle.reader.specs.Queries.{object_record, into_output}
use Rattle.reader.specs.Wire.{u32_at}
use Rattle.reader.specs.declared.file_wrapper.FileWrapper.{FileWrapper}
use Rattle.reader.specs.declared.file_wrapper.Metadata.{Metadata}
use Rattle.reader.specs.declared.listing.Cursor.{Cursor}
use Rattle.reader.specs.declared.plan.Plan.{Plan}
use Rattle.reader.specs.declared.listing.Step.{Step}
use Rattle.reader.specs.declared.objects.BlockId.{BlockId}
use Rattle.reader.specs.declared.objects.ObjectRow.{ObjectRow}
use Rattle.reader.specs.declared.records.ObjectRecord.{ObjectRecord}
use Rattle.reader.proofs.FrontLaws.{Fronts, front_start, front_turn}
use Rattle.reader.proofs.listing.Index.{region_with, cursors_start}
use Rattle.reader.proofs.objects.Laws.{region_has, row_none, block_below, row_found}

-- ---- check 10 for each object

cons_passes : {A : Type 0} (m : Result (List A)) (x : A) → ◌≡◌ {A = Result (Unit {0})} ((m >>= (λ xs. ok (x ∷ xs))) >> ok tt) (m >> ok tt)
cons_passes (ok xs) x = refl
cons_passes (error e) x = refl

module _ (b : List ℕ) (w : FileWrapper) (id n : ℕ) where
  check_yes : {row : ObjectRow} → object_of b w id ≡ ok row → check_objects b w id (suc n) ≡ check_objects b w (suc id) n
  unfolding objects_from
  check_yes {row} e = rw e (cons_passes (objects_from b w (suc id) n) row)

-- the objects before id have passed
pub record Passing (b : List ℕ) (w : FileWrapper) (id : ℕ) : Type 0 where
  pub rest : check_objects b w 1 (w.records - 1) ≡ check_objects b w id (w.records - id)

module _ {b : List ℕ} {w : FileWrapper} (o : Opens b w) where
  pub few_objects : w.records ≤ 699050
  few_objects = omega (arith, o)

module _ {b : List ℕ} {w : FileWrapper} {id : ℕ} (p : Passing b w id) where
  module _ (h : id < w.records) {r : ObjectRecord} (is : r ≡ object_record b w id) where
    more : w.records - id ≡ suc (w.records - suc id)
    more = omega arith

    pub passing_turn : ok tt ≡ check_block w r → Passing b w (id + 1)
    unfolding record_row
    passing_turn e =
        let k : check_block w (object_record b w id) ≡ ok tt = rw is at (sym e) in
        let row : object_of b w id ≡ ok (object_row b w (object_record b w id)) = rw k in
        record { rest = rw add-one (rw more at p.rest ∙ check_yes b w id (w.records - suc id) row) }

-- ---- the rows of objects that pass

module _ (b : List ℕ) (w : FileWrapper) where
  -- the first of them, and the others
  apart : (id n : ℕ) {rows : List ObjectRow} → objects_from b w id (suc n) ≡ ok rows
      → (row : ObjectRow) × ((rs : List ObjectRow) × ((object_of b w id ≡ ok row) × (objects_from b w (suc id) n ≡ ok rs) × (rows ≡ row ∷ rs)))
  unfolding objects_from
  apart id n {rows} e =
      let p = bind_passed (object_of b w id) (λ row. objects_from b w (suc id) n >>= (λ rs. ok (row ∷ rs))) e in
      let q = bind_passed (objects_from b w (suc id) n) (λ rs. ok (p.0 ∷ rs)) p.1.1 in
      let f = q.1.1 in
      let z : rows ≡ p.0 ∷ q.0 = cc in
      (p.0, (q.0, (p.1.0, q.1.0, z)))

  length_objects : (id n : ℕ) {rows : List ObjectRow} → objects_from b w id n ≡ ok rows → length rows ≡ n
  unfolding objects_from
  length_objects id zero {rows} e =
      let z : rows ≡ [] = cc in
      rw z
  length_objects id (suc n) e =
      let p = apart id n e in
      rw p.1.1.2 (ap suc (length_objects (suc id) n p.1.1.1))

  -- row i is the object of id + i
  object_at : (id n : ℕ) {rows : List ObjectRow} → objects_from b w id n ≡ ok rows → (i k : ℕ) → k ≡ id + i → i < n → object_of b w k ≡ ok (get_or rows i no_row)
  object_at id zero e i k s h = absurd (omega arith)
  object_at id (suc n) e zero k s h =
      let p = apart id n e in
      let z : k ≡ id = omega arith in
      rw (p.1.1.2, z) p.1.1.0
  object_at id (suc n) e (suc i) k s h =
      let p = apart id n e in
      rw p.1.1.2 (object_at (suc id) n p.1.1.1 i k (omega arith) (omega arith))

-- ---- the listing of a blob

module _ (m : Metadata) where
  rows_are : object_rows m.blob.now ≡ objects_from m.blob.now m.w 1 (m.w.records - 1)
  unfolding object_rows
  rows_are = rw m.opens.is

  module _ (said : ok tt ≡ check_objects m.blob.now m.w 1 (m.w.records - 1)) where
    come : Listable m
    come =
        let p = seq_passed (objects_from m.blob.now m.w 1 (m.w.records - 1)) (ok tt) (sym said) in
        rw (rows_are, p.1.0)

    count : length (all_objects m.blob.now) ≡ m.w.records - 1
    count = length_objects m.blob.now m.w 1 (m.w.records - 1) come

    module _ (room : ℕ) {n : ℕ} (k : n ≡ m.w.records - 1) where
      pub start_short : room < n → ListingFor m.blob.now room (Err (OutputTooShort n))
      start_short l =
          let t : leb (m.w.records - 1) room ≡ false = lt-leb (m.w.records - 1) room (omega arith) in
          let z : min (m.w.records - 1) (2 ^ 64 - 1) ≡ m.w.records - 1 = omega (arith, few_objects m.opens) in
          record { reply = rw (k, rows_are, come, count, t, z); is = tt }

      pub start_passed : n ≤ room → (p : Plan) → p.metadata ≡ m → ListingFor m.blob.now room (Ok (record { plan = p; count = n }))
      start_passed l p q =
          let t : leb (m.w.records - 1) room ≡ true = le-leb (m.w.records - 1) room (omega arith) in
          record {
            reply = rw (k, rows_are, come, count, t, count);
            is = record {
              blob = ap (λ (x : Metadata). x.blob.now) q;
              listable = subst Listable (sym q) come;
              count = subst (λ (x : Metadata). n ≡ x.w.records - 1) (sym q) k;
            };
          }

-- ---- one object more

module _ {m : Metadata} {cs : List Cursor} {i : ℕ} (to : ToNext m cs i) where
  abbrev b : List ℕ
  b = m.blob.now

  abbrev w : FileWrapper
  w = m.w

  is_row : object_of b w (i + 1) ≡ ok (get_or (all_objects b) i no_row)
  is_row = object_at b w 1 (w.records - 1) to.listable i (i + 1) (omega arith) (omega (arith, to.below))

  module _ {r : ObjectRecord} (is : r ≡ object_record b w (i + 1)) {k : BlockId} (chosen : k ≡ block_of r) where
    at_record : record_row b w r ≡ ok (get_or (all_objects b) i no_row)
    at_record = subst (λ (z : ObjectRecord). record_row b w z ≡ ok (get_or (all_objects b) i no_row)) (sym is) is_row

    passed : (check_block w r ≡ ok tt) × (object_row b w r ≡ get_or (all_objects b) i no_row)
    unfolding record_row
    passed =
        let p = seq_passed (check_block w r) (ok (object_row b w r)) at_record in
        let q = p.1.1 in
        let z : object_row b w r ≡ get_or (all_objects b) i no_row = cc in
        (p.1.0, z)

    pub next_none : k.id ≡ 0 → {row : ObjectRow} → row ≡ row_from r k 0 → NextObject m i (record { row = row; cursors = cs })
    next_none z e = record { cursors = to.cursors; row = row_none b w r passed.0 chosen z e ∙ passed.1 }

    module _ (some : k.id ≡ 0 → ⊥) where
      below_blocks : k.id < region_blocks w (number_of k.region)
      below_blocks = block_below b w r passed.0 chosen some

      pub next_block_lem : ToBlock m cs k
      next_block_lem = record { cursors = to.cursors; below = below_blocks }

      module _ {c : Cursor} (at : c ≡ cursor_at b (region_start w (number_of k.region)) k.id) where
        pub next_count : c.at + 4 ≤ length b
        next_count =
            let h : block_end 12 b c.at ≤ length b = rw at ((region_has m.opens k.region below_blocks).inside k.id (omega arith)) in
            omega (arith, h)

        pub next_found : {n : ℕ} → n ≡ u32_at b c.at → {row : ObjectRow} → row ≡ row_from r k n → {cs' : List Cursor} → cs' ≡ with_cursor cs k.region c
            → NextObject m i (record { row = row; cursors = cs' })
        next_found {n} is {row} e d =
            let q : c.at ≡ block_at 12 b (region_start w (number_of k.region)) k.id = ap (λ (x : Cursor). x.at) at in
            record {
              cursors = rw d (region_with to.cursors k.region (record { is = rw at }));
              row = row_found b w r passed.0 chosen some q is e ∙ passed.1;
            }

-- ---- the public call

-- a listing that is accepted has room for all rows
listed : {A : Type 0} (m : Result (List A)) (room : ℕ) {n : ℕ} → ok n ≡ map_result length (into_output m room)
    → (length (values_of m) ≡ n) × ((n ≤ room) × (into_output m room ≡ ok (values_of m)))
listed (ok xs) room {n} e =
    either (leb (length xs) room)
    (λ t. let q : ok n ≡ ok (length xs) = simp t at e in
    let z : n ≡ length xs = same_value q in
    (sym z, (omega (arith, z, leb-true (length xs) room t), simp t)))
    (λ t. let q : ok n ≡ error (record { number = 34; place = need_place (length xs) }) = simp t at e in
    clash cc)
listed (error f) room e = clash cc

-- the first i objects' rows are written, and the cursors are the blob's
pub record Filling (m : Metadata) (rows : List ObjectRow) (i : ℕ) (cs : List Cursor) (rows' : List ObjectRow) : Type 0 where
  pub cursors : AreCursors m cs
  pub are : Fronts (all_objects m.blob.now) rows i rows'

pub fill_start : {m : Metadata} {rows : List ObjectRow} {cs : List Cursor} → cs ≡ first_cursors m.w → Filling m rows 0 cs rows
fill_start e = record { cursors = cursors_start e; are = front_start }

pub fill_row : {m : Metadata} {rows : List ObjectRow} {i : ℕ} {cs : List Cursor} {rows' : List ObjectRow} → Filling m rows i cs rows'
    → {n : ℕ} → ok n ≡ map_result length (into_output (object_rows m.blob.now) (length rows)) → i < n → {s : Step} → NextObject m i s
    → Filling m rows (i + 1) s.cursors (set rows' i s.row)
fill_row {m} {rows} f e h t =
    let l = listed (object_rows m.blob.now) (length rows) e in
    record { cursors = t.cursors; are = front_turn f.are (omega (arith, l)) (omega (arith, l)) no_row t.row }
