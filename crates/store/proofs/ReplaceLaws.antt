-- Writing a replacement.
-- Assumes nothing.
use Prim.Native.Nat.{ℕ, zero, suc, ◌+◌, ◌-◌, ◌*◌, ◌^◌, max, ◌≤◌, ◌<◌}
use mathlib.Core.Path.{◌≡◌, refl, sym, ap, ◌∙◌}
use mathlib.Core.List.{List}
use native.Mathlib.Omega.{arith}
use borrow.Rule.Slice.PartMut.{mid_of, put_mid}
use lib.ListN.{length, get_or, take, drop, set, replicate, length-drop, length-set, length-take, length-replicate}
use lib.Seq.{paste}
use Rattle.std.specs.Prelude.{Ok}
use Rattle.std.proofs.lemmas.Slice.{put_mid-paste}
use Rattle.text.specs.Buffer.{put}
use Rattle.text.proofs.BufferLaws.{kept_over}
use Rattle.writer.specs.Array.{Array, no_array, payload, payloads, payload_spans}
use Rattle.writer.specs.FileWrapper.{file_wrapper}
use Rattle.writer.specs.Spans.{offset_at, length_at}
use Rattle.writer.proofs.LayoutLaws.{span_end, payloads_within}
use Rattle.store.specs.declared.array.StringArray.{StringArray}
use Rattle.store.specs.declared.counts.Counts.{Counts}
use Rattle.store.specs.declared.edits.Edit.TheVariants as kind
use Rattle.store.specs.Store.{Store, serialize, counted, stored_arrays}
use Rattle.store.specs.Model.{call}
use Rattle.store.specs.Moves.{spliced, shifted}
use Rattle.store.specs.Replies.{store_with, edit_in, Edits}
use Rattle.store.specs.Stages.{array_lent, WordsFit, ReplacesWords, PairFits, Passes}
use Rattle.store.proofs.AppendLaws.{objects_fit, bytes_fit, words_fit}
use Rattle.store.proofs.CallLaws.{old_is}
use Rattle.store.proofs.CanonicalLaws.{store_path}
use Rattle.store.proofs.ShiftLaws.{counted_offset, counted_length, shifted_is, shiftable}
use Rattle.store.proofs.SpliceLaws.{splices, spliced_is}
use Rattle.store.proofs.StoreLaws.{span_length, length_payloads_set}

-- ---- the stages

length_shifted : (d : List ℕ) (i n old new : ℕ) → length (shifted d i n old new) ≡ length d
unfolding shifted
length_shifted d i zero old new = refl
length_shifted d i (suc n) old new = length_shifted (set d (2 * i) (offset_at d i - old + new)) (suc i) n old new ∙ length-set d (2 * i) (offset_at d i - old + new)

module _ (used at old len : ℕ) (w : List ℕ) (a : StringArray) (f : WordsFit used at old len (length w) a) where
  -- w1 after the move, w2 with the payload, and zeros from the new end up to m
  pub words_replaced : {w1 w2 zs : List ℕ} {m : ℕ} → w1 ≡ paste w (at + len) (drop (at + old) w) (used - (at + old)) → w2 ≡ put w1 at (payload (array_lent a))
      → length w2 ≡ length w → m ≡ max (used - old + len) used → zs ≡ replicate (length (mid_of (used - old + len) (m - (used - old + len)) w2)) 0
      → ReplacesWords used at old w a (put_mid (used - old + len) (m - (used - old + len)) w2 zs)
  words_replaced {w1} {w2} {zs} {m} e1 e2 l e e3 =
      let total : ℕ = used - old + len in
      let z : ℕ = m - total in
      let n : length (mid_of total z w2) ≡ z = simp (length-take, length-drop) (omega (arith, f.counted, f.fits)) in
      record {
        is =
            splices w used at old (payload (array_lent a)) f.array.long f.inside f.counted f.fits e1 e2 (omega arith)
            (put_mid-paste total z w2 zs (replicate z 0) z (rw n at e3) refl (sym (length-replicate z 0)));
      }

-- ---- the whole

module _ (c : Counts) (bs ds ks ws : List ℕ) (id : ℕ) (a : StringArray) (len : ℕ) (c' : Counts)
    (p : Passes (store_with c bs ds ks ws) (kind.Replace id) a len c') where
  abbrev s : Store
  s = store_with c bs ds ks ws

  abbrev xs : List Array
  xs = stored_arrays (counted s)

  abbrev k : ℕ
  k = id - 1

  abbrev new : Array
  new = array_lent a

  is : counted s ≡ serialize xs
  is = p.measured.store.canonical

  objects : c.objects ≡ length xs
  objects = ap (λ (t : Store). t.objects) is

  there : k < length xs
  there = omega (arith, objects, p.measured.id.0, p.measured.id.1)

  pairs : take (2 * c.objects) ds ≡ payload_spans 0 xs
  pairs = ap (λ (t : Store). t.directory) is

  used : c.words ≡ length (payloads xs)
  used = ap (λ (t : Store). t.used_words) is

  old : length_at ds k ≡ length (payload (get_or xs k no_array))
  old = old_is s xs is id p.measured.id

  at_is : offset_at ds k ≡ offset_at (payload_spans 0 xs) k
  at_is = counted_offset ds c.objects xs pairs k (omega (arith, there, objects))

  cell_inside : offset_at ds k + length_at ds k ≤ c.words
  cell_inside = omega (arith, at_is, old, span_length 0 xs k there, span_end 0 xs k there, payloads_within xs (suc k), used)

  words_is : c'.words ≡ c.words - length_at ds k + len
  words_is = ap (λ (d : Counts). d.words) p.counts

  -- for j, an index that is k
  module _ {j : ℕ} (ej : j ≡ id - 1) where
    pub cell_fits : {n at old : ℕ} → n ≡ c.words → at ≡ offset_at ds j → old ≡ length_at ds j → WordsFit n at old len (length ws) a
    cell_fits e f g =
        let h = rw (← ej) at cell_inside in
        let w = rw (← ej) at words_is in
        record {
          array = p.measured.array;
          inside = omega (arith, h);
          counted = omega (arith, p.measured.store.words_inside);
          fits = omega (arith, w, p.words_fit);
        }

    pub pair_fits : {n : ℕ} → length ws * 8 < 2 ^ 63 → n ≡ c.objects → PairFits ds n j (length_at ds j) len
    pair_fits w e =
        let small : length (payloads (set xs k new)) < 2 ^ 64 =
        omega (arith, w, length_payloads_set xs k new there, old, used, words_is, p.words_fit, p.measured.array.long, cell_inside) in
        rw (e, ej) (record {
          inside = omega (arith, p.measured.store.directory_inside, there, objects);
          after = shiftable ds c.objects xs pairs objects k (omega (arith, there, objects)) new old p.measured.array.long small;
        })

    pub replace_done : {n at o m : ℕ} {ds' ws' : List ℕ} → at ≡ offset_at ds j → o ≡ length_at ds j → n ≡ c.words → m ≡ c.objects
        → ReplacesWords n at o ws a ws' → ds' ≡ shifted (set ds (2 * j + 1) len) (j + 1) (m - (j + 1)) (length_at ds j) len
        → Edits {A = Counts} s (call s (edit_in (kind.Replace id) a)) (Ok c') (store_with c' bs ds' ks ws')
    replace_done {n} {at} {o} {m} {ds'} {ws'} ea eo en em r d =
        let ys : List Array = set xs k new in
        let same : file_wrapper (length xs) ≡ file_wrapper (length ys) = ap file_wrapper (sym (length-set xs k new)) in
        let blob : take c.blob_bytes bs ≡ file_wrapper (length ys) = ap (λ (t : Store). t.blob) is ∙ same in
        let kinds : take c.objects ks ≡ replicate (length ys) 0 = ap (λ (t : Store). t.kinds) is ∙ ap (λ (i : ℕ). replicate i 0) (sym (length-set xs k new)) in
        let spliced_are : spliced ws c.words at o (payload new) ≡ payloads ys =
        spliced_is ws c.words xs (ap (λ (t : Store). t.words) is) used k there new (ea ∙ ap (offset_at ds) ej ∙ at_is)
        (eo ∙ ap (length_at ds) ej ∙ counted_length ds c.objects xs pairs k (omega (arith, there, objects))) in
        rw p.answer (record {
          reply = refl;
          store =
              store_path (objects_fit p) (bytes_fit p) (words_fit p)
              (kept_over bs (file_wrapper (length ys)) c.blob_bytes blob (ap length (sym same) ∙ sym (ap (λ (t : Store). t.blob_bytes) is)))
              (d ∙ rw (ej, em) (shifted_is ds c.objects xs pairs objects k (omega (arith, there, objects)) new old p.measured.array.long))
              (kept_over ks (replicate (length ys) 0) c.objects kinds (length-replicate (length ys) 0 ∙ length-set xs k new ∙ sym objects))
              (r.is ∙ rw (en, spliced_are));
        })
