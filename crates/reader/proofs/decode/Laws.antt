-- The first road: an id, ids in turn with the loops of `measure_ids` and `put_ids`, and the outcomes of `write_ids` and `decode_string`.
-- Assumes nothing.
use Prim.Native.Nat.{ℕ, ◌+◌, ◌-◌, ◌*◌, ◌^◌, ◌≤◌, ◌<◌}
use mathlib.Core.Path.{◌≡◌, refl, sym, ap, ◌∙◌}
use mathlib.Core.List.{List, [], ◌∷◌, ◌++◌, flat_map}
use native.Mathlib.Omega.{arith}
use native.Mathlib.Numerals.{add-one}
use lib.ListN.{length, get_or, take, drop, length-append}
use lib.Seq.{length-take-le, take-suc}
use Rattle.std.proofs.lemmas.List.{take-append-drop}
use Rattle.std.specs.Prelude.{Result as Reply}
use Rattle.text.specs.Result.{Result, ok, error, map_result, values_of}
use Rattle.text.specs.declared.error.Failure.{Failure}
use Rattle.text.specs.declared.error.MatError.{MatError}
use Rattle.text.proofs.BufferLaws.{put_none}
use Rattle.text.proofs.ReplyLaws.{told_error}
use Rattle.text.proofs.ResultLaws.{bind_passed}
use Rattle.text.proofs.TestLaws.{clash}
use Rattle.writer.specs.Spans.{joined}
use Rattle.writer.proofs.LayoutLaws.{length_joined, spans_none}
use Rattle.reader.specs.Cells.{check_directory, cell_of}
use Rattle.reader.specs.Decode.{id_strings, ids_strings, metadata_strings}
use Rattle.reader.specs.Opaque.{opaque_metadata}
use Rattle.reader.specs.Opening.{opened}
use Rattle.reader.specs.Replies.{size_of, DecodesStrings}
use Rattle.reader.specs.Saveobj.{decode_payload}
use Rattle.reader.specs.Stages.Saveobj.{origin, FitsAt, WritesAt}
use Rattle.reader.specs.declared.file_wrapper.FileWrapper.{FileWrapper}
use Rattle.reader.specs.declared.opaque.OpaqueMetadata.{OpaqueMetadata}
use Rattle.reader.specs.declared.saveobj.DecodedSize.{DecodedSize}
use Rattle.reader.specs.declared.saveobj.Position.{Position}
use Rattle.reader.proofs.decode.Both.{Strings, both, both_none, none_both, both_assoc, both_passed, both_counts, fits_first, fits_second, writes_both}
use Rattle.reader.proofs.saveobj.Payload.{counts_are, payload_most}

-- ---- the outcomes of `put_id`

module _ (directory kinds words : List ℕ) (id : ℕ) where
  module _ {payload : List ℕ} (c : ok payload ≡ cell_of directory kinds words id) where
    id_is : id_strings directory kinds words id ≡ decode_payload payload
    unfolding id_strings
    id_is = rw (sym c)

    module _ {at : Position} where
      pub id_fits : {text_room span_room : ℕ} → FitsAt (id_strings directory kinds words id) text_room span_room at
          → FitsAt (decode_payload payload) text_room span_room at
      id_fits f = rw id_is at f

      pub id_writes : {t s : List ℕ} {next : Position} {t' s' : List ℕ} → WritesAt (decode_payload payload) at t s next t' s'
          → WritesAt (id_strings directory kinds words id) at t s next t' s'
      id_writes w = rw id_is w

  module _ {f : Failure} (c : error f ≡ cell_of directory kinds words id) where
    -- an id that has strings has a cell
    pub id_never : {t s : List ℕ} {at : Position} → FitsAt (id_strings directory kinds words id) (length t) (length s) at → WritesAt (id_strings directory kinds words id) at t s at t s
    unfolding id_strings
    id_never h =
        let k : id_strings directory kinds words id ≡ error f = rw (sym c) in
        let p = h.passed in
        clash cc

-- ---- ids in turn

module _ (directory kinds words : List ℕ) where
  abbrev one : ℕ → Strings
  one = id_strings directory kinds words

  abbrev ids : List ℕ → Strings
  ids = ids_strings directory kinds words

  ids_cons : (x : ℕ) (xs : List ℕ) → ids (x ∷ xs) ≡ both (one x) (ids xs)
  unfolding ids_strings both
  ids_cons x xs = refl

  ids_append : (xs ys : List ℕ) → ids (xs ++ ys) ≡ both (ids xs) (ids ys)
  unfolding ids_strings
  ids_append [] ys = sym (none_both (ids ys))
  ids_append (x ∷ xs) ys = rw (ids_cons x (xs ++ ys), ids_cons x xs) (ap (both (one x)) (ids_append xs ys) ∙ both_assoc (one x) (ids xs) (ids ys))

  ids_one : (x : ℕ) → ids (x ∷ []) ≡ one x
  unfolding ids_strings
  ids_one x = ids_cons x [] ∙ both_none (one x)

  id_most : (id : ℕ) {ss : List (List ℕ)} → one id ≡ ok ss → (length (joined ss) ≤ 12 * 2097152) × (length ss ≤ 2097152)
  unfolding id_strings
  id_most id e =
      let p = bind_passed (cell_of directory kinds words id) _ e in
      payload_most p.0 p.1.1

  ids_most : (xs : List ℕ) {ss : List (List ℕ)} → ids xs ≡ ok ss → (length (joined ss) ≤ 12 * 2097152 * length xs) × (length ss ≤ 2097152 * length xs)
  unfolding flat_map ids_strings
  ids_most [] {ss} e =
      let z : [] ≡ ss = cc in
      rw (sym z) (omega arith, omega arith)
  ids_most (x ∷ xs) {ss} e =
      let p = both_passed (one x) (ids xs) (sym (ids_cons x xs) ∙ e) in
      let a = id_most x p.0 in
      let b = ids_most xs p.1 in
      let j = values_of (one x) in
      let k = values_of (ids xs) in
      rw p.2 (omega (arith, a.0, b.0, length_joined j k), omega (arith, a.1, b.1, length-append j k))

  module _ (xs : List ℕ) where
    -- one id more
    ids_next : (i : ℕ) → i < length xs → ids (take (i + 1) xs) ≡ both (ids (take i xs)) (one (get_or xs i 0))
    ids_next i h =
        rw (add-one i, take-suc xs i 0 h)
        (ids_append (take i xs) (get_or xs i 0 ∷ []) ∙ ap (both (ids (take i xs))) (ids_one (get_or xs i 0)))

    -- an id among others
    ids_around : {i : ℕ} → i < length xs → ids xs ≡ both (both (ids (take i xs)) (one (get_or xs i 0))) (ids (drop (i + 1) xs))
    ids_around {i} h =
        ap ids (sym (take-append-drop (i + 1) xs)) ∙ ids_append (take (i + 1) xs) (drop (i + 1) xs) ∙ ap (λ (s : Strings). both s (ids (drop (i + 1) xs))) (ids_next i h)

    -- ---- the loop of `measure_ids`

    -- the checks of the ids before id i hold, and these are the bytes and the number of their strings
    pub record MeasuringIds (bytes strings i : ℕ) : Type 0 where
      pub counts : ◌≡◌ {A = Result DecodedSize} (ok (record { bytes = bytes; strings = strings })) (map_result size_of (ids (take i xs)))

    pub ids_start : MeasuringIds 0 0 0
    unfolding flat_map ids_strings
    ids_start = record { counts = refl }

    module _ {bytes strings i : ℕ} (m : MeasuringIds bytes strings i) (h : i < length xs) where
      pub ids_stop : {f : Failure} → error f ≡ map_result size_of (one (get_or xs i 0)) → error f ≡ map_result size_of (ids xs)
      unfolding both
      ids_stop e = rw (ids_around h, (counts_are (ids (take i xs)) m.counts).0, told_error size_of (one (get_or xs i 0)) e)

      module _ {more : DecodedSize} (e : ok more ≡ map_result size_of (one (get_or xs i 0))) where
        pub ids_turn : MeasuringIds (bytes + more.bytes) (strings + more.strings) (i + 1)
        ids_turn = record { counts = rw (ids_next i h) (both_counts (ids (take i xs)) (one (get_or xs i 0)) m.counts e) }

        -- the sums of a turn fit 64 bits
        pub ids_fit : length xs ≤ 65536 → (bytes + more.bytes < 2 ^ 64) × (strings + more.strings < 2 ^ 64)
        ids_fit few =
            let p = counts_are (ids (take (i + 1) xs)) ids_turn.counts in
            let q = ids_most (take (i + 1) xs) p.0 in
            let l = length-take-le (i + 1) xs in
            (omega (arith, p.1, q.0, l), omega (arith, p.2, q.1, l))

    -- ---- the loop of `put_ids`

    -- the strings of the ids before id i are written, and their spans; at is the position after them
    pub record WritingIds (t₀ s₀ : List ℕ) (at : Position) (t s : List ℕ) (i : ℕ) : Type 0 where
      pub written : WritesAt (ids (take i xs)) origin t₀ s₀ at t s

    module _ (t₀ s₀ : List ℕ) where
      pub puts_start : WritingIds t₀ s₀ origin t₀ s₀ 0
      unfolding flat_map ids_strings
      puts_start = record {
        written = record { strings = omega arith; end = omega arith; text_after = sym (put_none t₀ 0); spans_after = rw spans_none (sym (put_none s₀ (2 * 0))) };
      }

      module _ (f : FitsAt (ids xs) (length t₀) (length s₀) origin) {at : Position} {t s : List ℕ} {i : ℕ} (m : WritingIds t₀ s₀ at t s i) (h : i < length xs) where
        fits_upto : FitsAt (both (ids (take i xs)) (one (get_or xs i 0))) (length t₀) (length s₀) origin
        fits_upto = fits_first _ _ (rw (ids_around h) at f)

        pub puts_fits : FitsAt (one (get_or xs i 0)) (length t) (length s) at
        puts_fits = fits_second _ _ fits_upto m.written

        pub puts_turn : {next : Position} {t' s' : List ℕ} → WritesAt (one (get_or xs i 0)) at t s next t' s' → WritingIds t₀ s₀ next t' s' (i + 1)
        puts_turn w = record { written = rw (ids_next i h) (writes_both _ _ fits_upto m.written w) }

    -- ---- the outcomes of `write_ids`, beside those of every result

    -- the values of the spans fit 64 bits
    pub ids_values : length xs ≤ 65536 → {size : DecodedSize} → ok size ≡ map_result size_of (ids xs) → 2 * size.strings < 2 ^ 64
    ids_values few e =
        let c = counts_are (ids xs) e in
        omega (arith, c.2, (ids_most xs c.0).1)

-- ---- the outcomes of `decode_string`

module _ (blob directory kinds words metadata : List ℕ) where
  abbrev named : Strings
  named = metadata_strings blob directory kinds words metadata

  pub named_blob : {f : Failure} → error f ≡ opened blob → named ≡ error f
  unfolding metadata_strings
  named_blob p = rw (sym p)

  module _ {w : FileWrapper} (p : ok w ≡ opened blob) where
    pub named_directory : {f : Failure} → error f ≡ check_directory directory kinds (length words) → named ≡ error f
    unfolding metadata_strings
    named_directory d = rw (sym p) (rw (sym d))

    module _ (d : ok tt ≡ check_directory directory kinds (length words)) where
      pub named_metadata : {f : Failure} → error f ≡ opaque_metadata metadata → named ≡ error f
      unfolding metadata_strings
      named_metadata o = rw (sym p) (rw (sym d) (rw (sym o)))

      module _ {m : OpaqueMetadata} (o : ok m ≡ opaque_metadata metadata) where
        pub named_ids : {d k w : List ℕ} → (d ≡ directory) × (k ≡ kinds) × (w ≡ words)
            → {text spans : List ℕ} {r : Reply DecodedSize MatError} {text' spans' : List ℕ}
            → DecodesStrings (ids_strings d k w (take (m.first_id + m.ids - m.first_id) (drop m.first_id metadata))) text spans r text' spans'
            → DecodesStrings named text spans r text' spans'
        unfolding metadata_strings
        named_ids l h =
            let n : m.first_id + m.ids - m.first_id ≡ m.ids = omega arith in
            rw (sym p) (rw (sym d) (rw (sym o) (rw (n, l.0, l.1, l.2) at h)))
