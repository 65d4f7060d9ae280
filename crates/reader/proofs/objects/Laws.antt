-- The object of one id.
-- Assumes nothing.
use mathlib.Core.Path.{◌≡◌, sym, ap, ◌∙◌, subst}
use mathlib.Core.Bool.{false}
use mathlib.Core.List.{List}
use Prim.Native.Nat.{ℕ, ◌+◌, ◌*◌, ◌≤◌, ◌<◌}
use native.Mathlib.Omega.{arith}
use borrow.Author.Tests.{eq-eqb, ne_eqb, ltb-true}
use lib.Dec.{eqb, ltb}
use lib.ListN.{length, get_or}
use Rattle.std.specs.Prelude.{IsErr, Ok, Result as Reply}
use Rattle.std.specs.Result.{IsErrAnd}
use Rattle.std.proofs.lemmas.Result.{IfOk-from_err}
use Rattle.text.specs.Errors.{failure_of}
use Rattle.text.specs.Result.{ok, error, map_result}
use Rattle.text.specs.declared.error.MatError.{MatError}
use Rattle.text.proofs.ReplyLaws.{handed_on}
use Rattle.text.proofs.ResultLaws.{check_is}
use Rattle.text.proofs.TestLaws.{either}
use Rattle.reader.specs.Blocks.{block_end, block_at}
use Rattle.reader.specs.Stages.Blocks.{HasBlock}
use Rattle.reader.specs.Objects.{region_of, block_id_of, region_start, region_blocks, check_block, block_start, property_count, object_row, record_row}
use Rattle.reader.specs.Stages.Objects.{number_of, block_of, row_from, ReadsObject}
use Rattle.reader.specs.Stages.Opening.{Opens}
use Rattle.reader.specs.Queries.{object_record}
use Rattle.reader.specs.Wire.{u32_at}
use Rattle.reader.specs.declared.file_wrapper.FileWrapper.{FileWrapper}
use Rattle.reader.specs.declared.objects.BlockId.{BlockId}
use Rattle.reader.specs.declared.objects.LocatedObject.{LocatedObject}
use Rattle.reader.specs.declared.objects.ObjectRow.{ObjectRow}
use Rattle.reader.specs.declared.objects.Region.{Region}
use Rattle.reader.specs.declared.objects.Region.TheVariants.{Saved, Normal}
use Rattle.reader.specs.declared.records.ObjectRecord.{ObjectRecord}
use Rattle.reader.proofs.blocks.Laws.{blocks_inside}

-- ---- the row of an object that passed check 10

pub region_has : {b : List ℕ} {w : FileWrapper} → Opens b w → (g : Region) {k : ℕ} → k < region_blocks w (number_of g) → HasBlock 12 b (region_start w (number_of g)) k
region_has {b} {w} o Saved h = record {
  most = o.most;
  small = omega arith;
  inside = λ j l. let i = blocks_inside 12 b (get_or w.offsets 1 0) (get_or w.offsets 2 0) o.saveobj_blocks j (omega arith) in omega (arith, o, i);
}
region_has {b} {w} o Normal h = record {
  most = o.most;
  small = omega arith;
  inside = λ j l. let i = blocks_inside 12 b (get_or w.offsets 3 0) (get_or w.offsets 4 0) o.normalobj_blocks j (omega arith) in omega (arith, o, i);
}

region_is : (r : ObjectRecord) → number_of (block_of r).region ≡ region_of r
region_is r = either (eqb r.saveobj_id 0) (λ t. simp t) (λ t. simp t)

module _ (b : List ℕ) (w : FileWrapper) (r : ObjectRecord) (passed : check_block w r ≡ ok tt) {k : BlockId} (chosen : k ≡ block_of r) where
  block_is : k.id ≡ block_id_of r
  block_is = ap (λ (x : BlockId). x.id) chosen

  pub row_none : k.id ≡ 0 → {row : ObjectRow} → row ≡ row_from r k 0 → row ≡ object_row b w r
  unfolding property_count
  row_none z {row} e =
      let t = eq-eqb (block_id_of r) 0 (sym block_is ∙ z) in
      simp t (rw (e, chosen, region_is r))

  module _ (some : k.id ≡ 0 → ⊥) where
    has_id : eqb (block_id_of r) 0 ≡ false
    has_id = ne_eqb (block_id_of r) 0 (λ z. some (block_is ∙ z))

    pub block_below : k.id < region_blocks w (number_of k.region)
    unfolding check_block
    block_below =
        let t = simp has_id at passed in
        rw (chosen, region_is r) (ltb-true (block_id_of r) (region_blocks w (region_of r)) (check_is 10 (ltb (block_id_of r) (region_blocks w (region_of r))) (block_id_of r) t))

    module _ {at : ℕ} (is : at ≡ block_at 12 b (region_start w (number_of k.region)) k.id) where
      pub block_place : at ≡ block_start b w r
      unfolding block_start
      block_place = simp has_id (rw (is, chosen, region_is r))

      pub row_found : {m : ℕ} → m ≡ u32_at b at → {row : ObjectRow} → row ≡ row_from r k m → row ≡ object_row b w r
      unfolding property_count
      row_found {m} mm {row} e = simp has_id (rw (e, mm, block_place, chosen, region_is r))

-- ---- one object

pub record_inside : {b : List ℕ} {w : FileWrapper} {id : ℕ} → Opens b w → id < w.records → get_or w.offsets 2 0 + 24 * id + 24 ≤ length b
record_inside o h = omega (arith, o, o.object_records)

of_id : {b : List ℕ} {w : FileWrapper} (id : ℕ) {r : ObjectRecord} → r ≡ object_record b w id → {x : Reply LocatedObject MatError}
    → ReadsObject b w r x → ReadsObject b w (object_record b w id) x
of_id {b} {w} id is {x} = subst (λ (z : ObjectRecord). ReadsObject b w z x) is

module _ {b : List ℕ} {w : FileWrapper} (id : ℕ) {r : ObjectRecord} (is : r ≡ object_record b w id) where
  pub object_refused : (x : Reply LocatedObject MatError) (e : MatError) → IsErr x × IsErrAnd x (λ y. y ≡ e) → error (failure_of e) ≡ check_block w r
      → ReadsObject b w (object_record b w id) x
  unfolding record_row
  object_refused x e p q = of_id id is (record {
    reply = ap (map_result (λ (o : LocatedObject). o.row)) (handed_on x e p) ∙ rw (← q);
    stands = IfOk-from_err x _ p.0;
  })

  module _ {u : Unit {0}} (passed : ok u ≡ check_block w r) (o : Opens b w) (below : id < w.records) {k : BlockId} (chosen : k ≡ block_of r) where
    pub object_none : k.id ≡ 0 → {row : ObjectRow} → row ≡ row_from r k 0 → ReadsObject b w (object_record b w id) (Ok (record { row = row; at = 0 }))
    unfolding record_row block_start
    object_none z {row} e =
        let t = eq-eqb (block_id_of r) 0 (sym (ap (λ (x : BlockId). x.id) chosen) ∙ z) in
        of_id id is (record {
          reply = rw (← passed) (ap ok (row_none b w r (sym passed) chosen z e));
          stands = record { is = simp t; inside = rw e (omega (arith, record_inside o below)) };
        })

    module _ (some : k.id ≡ 0 → ⊥) {start : ℕ} (s : start ≡ region_start w (number_of k.region)) where
      pub object_has : HasBlock 12 b start k.id
      object_has = rw s (region_has o k.region (block_below b w r (sym passed) chosen some))

      module _ {at : ℕ} (there : at ≡ block_at 12 b start k.id) where
        whole : block_end 12 b at ≤ length b
        whole = rw there (object_has.inside k.id (omega arith))

        pub count_inside : at + 4 ≤ length b
        count_inside = omega (arith, whole)

        pub object_found : {m : ℕ} → m ≡ u32_at b at → {row : ObjectRow} → row ≡ row_from r k m → ReadsObject b w (object_record b w id) (Ok (record { row = row; at = at }))
        unfolding record_row
        object_found {m} mm {row} e =
            let p : at ≡ block_at 12 b (region_start w (number_of k.region)) k.id = rw (← s) there in
            of_id id is (record {
              reply = rw (← passed) (ap ok (row_found b w r (sym passed) chosen some p mm e));
              stands = record { is = block_place b w r (sym passed) chosen some p; inside = rw (e, mm) whole };
            })
