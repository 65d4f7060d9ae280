-- The outcomes of decoding a string object through its property.
-- Assumes nothing.
use mathlib.Core.Path.{◌≡◌, refl, sym, ap, ◌∙◌, fun_ext}
use mathlib.Core.Bool.{Bool}
use mathlib.Core.List.{List, [], ◌∷◌, flat_map}
use Rattle.std.specs.Option.{unwrap_or}
use Rattle.std.specs.Prelude.{Option, Some, None, Ok, Err, Result as Reply}
use Prim.Native.Nat.{ℕ, zero, suc, ◌+◌, ◌*◌, ◌≤◌, ◌<◌}
use native.Mathlib.Omega.{arith}
use borrow.Author.Tests.{le-leb, eq-eqb, ne_eqb}
use lib.Dec.{leb}
use lib.ListN.{length, get_or, set}
use Rattle.text.specs.Result.{Result, ok, error, map_result, overwritten, ◌>>◌, ◌>>=◌}
use Rattle.text.specs.declared.error.Failure.{Failure}
use Rattle.text.specs.declared.error.MatError.{MatError}
use Rattle.text.specs.declared.error.MatError.TheVariants.{OutputTooShort}
use Rattle.text.proofs.BufferLaws.{put_front}
use Rattle.text.proofs.ByteLaws.{stores}
use Rattle.text.proofs.ResultLaws.{seq_bind}
use Rattle.text.proofs.TestLaws.{either}
use Rattle.writer.specs.Spans.{spans_from}
use Rattle.writer.proofs.LayoutLaws.{spans_none, spans_cons}
use Rattle.reader.specs.Cells.{check_directory, cell_at}
use Rattle.reader.specs.Decode.{any_name, chosen_index, string_class, property_strings, triples_strings, object_strings}
use Rattle.reader.specs.Stages.StringObjects.{chosen_of, chosen_property, string_property, chosen_strings}
use Rattle.reader.specs.Objects.{triples_from, record_triples, position, is_named, is_stored_as}
use Rattle.reader.specs.Stages.Properties.{named_triples, RecordTriples}
use Rattle.reader.specs.Opening.{opened}
use Rattle.reader.specs.Queries.{check_object, object_record}
use Rattle.reader.specs.Replies.{size_of, DecodesStrings}
use Rattle.reader.specs.Saveobj.{decode_payload, into_strings}
use Rattle.reader.specs.Wire.{triple_at}
use Rattle.reader.specs.declared.file_wrapper.FileWrapper.{FileWrapper}
use Rattle.reader.specs.declared.file_wrapper.Metadata.{Metadata}
use Rattle.reader.specs.declared.triples.Triples.{Triples}
use Rattle.reader.specs.declared.records.ObjectRecord.{ObjectRecord}
use Rattle.reader.specs.declared.records.Triple.{Triple}
use Rattle.reader.specs.declared.saveobj.DecodedSize.{DecodedSize}
use Rattle.reader.proofs.FindingLaws.{ascii_where_stored}
use Rattle.reader.proofs.find.Laws.{position_within}
use Rattle.reader.proofs.saveobj.Payload.{outputs_spans, outputs_fit, decode_short, decode_written}
use Rattle.reader.proofs.properties.Laws.{length_triples, triple_at_lem}

-- ---- the chosen property

chosen_at : (b : List ℕ) (w : FileWrapper) (i n k : ℕ) → k < n → chosen_index b w (triples_from b i n) ≡ k → chosen_of b w (triples_from b i n) ≡ Some (triple_at b (i + 12 * k))
unfolding triples_from
chosen_at b w i zero k h e = absurd (omega arith)
chosen_at b w i (suc n) k h e =
    ap (λ (j : ℕ). Some (get_or (triples_from b i (suc n)) j (triple_at b i))) e ∙ ap Some (triple_at_lem b i (suc n) k (triple_at b i) h)

-- a property is named "any" exactly where its name is stored so
any_where_stored : (b : List ℕ) (w : FileWrapper) → is_named b w any_name ≡ is_stored_as b w any_name
any_where_stored b w = fun_ext (λ t. ascii_where_stored b w t.name_idx any_name (omega arith))

module _ {m : Metadata} {r : ObjectRecord} {t : Triples} (h : RecordTriples m r (Ok t)) where
  come : {c : Option Triple} → c ≡ chosen_of t.metadata.blob.now t.metadata.w (named_triples t) → ok c ≡ chosen_property m.blob.now m.w r
  unfolding chosen_property
  come e = rw (sym (rw h.are at h.reply)) (ap ok (rw h.are at e))

  pub choose_none : t.count ≡ 0 → ok None ≡ chosen_property m.blob.now m.w r
  unfolding triples_from
  choose_none z = come (rw z)

  module _ (has : t.count ≡ 0 → ⊥) {o : Option ℕ}
      (f : o ≡ position (is_stored_as t.metadata.blob.now t.metadata.w any_name) (named_triples t)) {k : ℕ} (e : k ≡ unwrap_or o 0) where
    found : k ≡ unwrap_or (position (is_stored_as t.metadata.blob.now t.metadata.w any_name) (named_triples t)) 0
    found = rw f at e

    pub choose_inside : k < t.count
    choose_inside =
        let p : Triple → Bool = is_stored_as t.metadata.blob.now t.metadata.w any_name in
        let n = length_triples t.metadata.blob.now t.at t.count in
        omega (arith, found, n, position_within p (named_triples t) (omega (arith, n)))

    pub choose_named : {y : Triple} → y ≡ triple_at t.metadata.blob.now (t.at + 12 * k) → ok (Some y) ≡ chosen_property m.blob.now m.w r
    choose_named is =
        let i : chosen_index t.metadata.blob.now t.metadata.w (named_triples t) ≡ k =
        ap (λ (p : Triple → Bool). unwrap_or (position p (named_triples t)) 0) (any_where_stored t.metadata.blob.now t.metadata.w) ∙ sym found in
        come (ap Some is ∙ sym (chosen_at t.metadata.blob.now t.metadata.w t.at t.count k choose_inside i))

-- ---- the property of a string object

module _ (b : List ℕ) (w : FileWrapper) (id : ℕ) where
  pub property_failed : {f : Failure} → error f ≡ check_object w id → error f ≡ string_property b w id
  unfolding string_property
  property_failed d = rw (sym d)

  module _ {u : Unit {0}} (d : ok u ≡ check_object w id) {o : ObjectRecord} (is : o ≡ object_record b w id) where
    class_is : {m : Result (Unit {0})} → m ≡ string_class b w o.class_id → (m >> chosen_property b w (object_record b w id)) ≡ string_property b w id
    unfolding string_property
    class_is e = rw (sym d) (rw (sym (rw is at e)))

    pub property_class : {f : Failure} → error f ≡ string_class b w o.class_id → error f ≡ string_property b w id
    property_class e = class_is e

    pub property_chosen : {u : Unit {0}} → ok u ≡ string_class b w o.class_id → {m : Result (Option Triple)}
        → m ≡ chosen_property b w (object_record b w id) → m ≡ string_property b w id
    property_chosen e c = c ∙ class_is e

-- ---- the strings of a property's cell

module _ (directory kinds words : List ℕ) (t : Triple) where
  pub property_other : (t.field_type ≡ 1 → ⊥) → property_strings directory kinds words t ≡ error (record { number = 16; place = 1 })
  unfolding property_strings
  property_other h = simp (ne_eqb t.field_type 1 h)

  module _ (h : t.field_type ≡ 1) where
    property_is : {m : Result (List ℕ)} → m ≡ cell_at directory kinds words t.value t.value → property_strings directory kinds words t ≡ (m >>= decode_payload)
    unfolding property_strings
    property_is c = simp (eq-eqb t.field_type 1 h) (rw (sym c))

    pub property_refused : {f : Failure} → error f ≡ cell_at directory kinds words t.value t.value → property_strings directory kinds words t ≡ error f
    property_refused c = property_is c

    pub property_decoded : {payload : List ℕ} → ok payload ≡ cell_at directory kinds words t.value t.value
        → {text spans text' spans' : List ℕ} {r : Reply DecodedSize MatError}
        → DecodesStrings (decode_payload payload) text spans r text' spans' → DecodesStrings (property_strings directory kinds words t) text spans r text' spans'
    property_decoded c d = rw (property_is c) d

-- ---- one empty string

abbrev one_empty : Result (List (List ℕ))
one_empty = ok ([] ∷ [])

abbrev one_size : DecodedSize
one_size = record { bytes = 0; strings = 1 }

module _ (spans : List ℕ) where
  pub empty_short : length spans < 2 → DecodesStrings one_empty [] spans (Err (OutputTooShort 2)) [] spans
  unfolding flat_map
  empty_short h = decode_short one_empty [] spans {size = one_size} refl (outputs_spans 0 1 0 (length spans) (omega arith) (omega arith) (omega arith))

  pub empty_written : 2 ≤ length spans → DecodesStrings one_empty [] spans (Ok one_size) [] (set (set spans 0 0) 1 0)
  unfolding flat_map
  empty_written h =
      decode_written one_empty [] spans refl (outputs_fit 0 1 0 (length spans) (omega arith) (omega arith)) {next = record { byte = 0; string = 1 }}
      (record {
        strings = refl;
        end = refl;
        text_after = sym (put_front [] []);
        spans_after = rw (spans_cons, spans_none) (stores (0 ∷ 0 ∷ []) spans 0 (omega arith));
      })

-- it needs nothing of the text
empty_anywhere : (text : List ℕ) {spans spans' : List ℕ} {r : Reply DecodedSize MatError} → DecodesStrings one_empty [] spans r [] spans' → DecodesStrings one_empty text spans r text spans'
unfolding flat_map
empty_anywhere text {spans} d =
    let k : into_strings one_empty (length text) (length spans) ≡ into_strings one_empty 0 (length spans) = simp (le-leb 0 (length text) (omega arith)) in
    record {
      reply = d.reply ∙ ap (map_result size_of) (sym k);
      text_after = rw k (either (leb 2 (length spans)) (λ e. simp e) (λ e. simp e));
      spans_after = d.spans_after ∙ ap (λ (n : Result (List (List ℕ))). overwritten (spans_from 0) n spans) (sym k);
    }

-- ---- the road

bind_map : {A B C : Type 0} (m : Result A) (f : A → Result C) (g : A → B) (h : B → Result C) → ((a : A) → f a ≡ h (g a)) → (m >>= f) ≡ ((m >>= λ a. ok (g a)) >>= h)
bind_map (ok a) f g h e = e a
bind_map (error n) f g h e = refl

module _ (b directory kinds words : List ℕ) (id : ℕ) where
  abbrev led : Option Triple → Result (List (List ℕ))
  led = chosen_strings directory kinds words

  abbrev strings : Result (List (List ℕ))
  strings = object_strings b directory kinds words id

  chosen_strings_lem : (w : FileWrapper) (ts : List Triple) → triples_strings b w directory kinds words ts ≡ led (chosen_of b w ts)
  unfolding triples_strings
  chosen_strings_lem w [] = refl
  chosen_strings_lem w (t ∷ ts) = refl

  pub object_refused : {f : Failure} → error f ≡ opened b → strings ≡ error f
  unfolding object_strings
  object_refused e = rw (sym e)

  module _ {w : FileWrapper} (e : ok w ≡ opened b) where
    pub object_directory : {f : Failure} → error f ≡ check_directory directory kinds (length words) → strings ≡ error f
    unfolding object_strings
    object_directory d = rw (sym e, sym d)

    module _ (d : ok tt ≡ check_directory directory kinds (length words)) where
      -- what is left after 1 to 7 and 13
      left_is : strings ≡ (string_property b w id >>= led)
      unfolding object_strings string_property chosen_property
      left_is =
          let o : ObjectRecord = object_record b w id in
          rw (sym e, sym d)
          (ap (λ (m : Result (List (List ℕ))). check_object w id >> (string_class b w o.class_id >> m))
          (bind_map (record_triples b w o) (triples_strings b w directory kinds words) (chosen_of b w) led (chosen_strings_lem w))
          ∙ ap (λ (m : Result (List (List ℕ))). check_object w id >> m) (seq_bind (string_class b w o.class_id) (chosen_property b w o) led)
          ∙ seq_bind (check_object w id) (string_class b w o.class_id >> chosen_property b w o) led)

      then : {m : Result (Option Triple)} → m ≡ string_property b w id → strings ≡ (m >>= led)
      then c = left_is ∙ ap (λ (m : Result (Option Triple)). m >>= led) (sym c)

      pub object_failed : {f : Failure} → error f ≡ string_property b w id → strings ≡ error f
      object_failed c = then c

      module _ {o : Option Triple} (c : ok o ≡ string_property b w id) {spans spans' : List ℕ} {r : Reply DecodedSize MatError} where
        pub object_decoded : {d k w : List ℕ} → (d ≡ directory) × (k ≡ kinds) × (w ≡ words) → {t : Triple} → o ≡ Some t → {text text' : List ℕ}
            → DecodesStrings (property_strings d k w t) text spans r text' spans' → DecodesStrings strings text spans r text' spans'
        object_decoded l g p = rw (then c, g) (rw (l.0, l.1, l.2) at p)

        pub object_empty : o ≡ None → (text : List ℕ) → DecodesStrings one_empty [] spans r [] spans' → DecodesStrings strings text spans r text spans'
        object_empty g text p = rw (then c, g) (empty_anywhere text p)
