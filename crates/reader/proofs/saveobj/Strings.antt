-- Strings in a payload, one after the other: the loops of `StringPayload::measure` (check 29) and `StringPayload::put`.
-- Assumes nothing.
use Prim.Native.Nat.{ℕ, zero, suc, ◌+◌, ◌-◌, ◌*◌, ◌^◌, ◌≤◌, ◌<◌}
use mathlib.Core.Path.{◌≡◌, refl, sym, ap, subst, ◌∙◌}
use mathlib.Core.Bool.{Bool, true, false, not, ◌&&◌}
use mathlib.Core.List.{List, [], ◌∷◌, ◌++◌, flat_map}
use Rattle.std.specs.Prelude.{Some, None}
use native.Mathlib.Nat.{add-zero}
use native.Mathlib.Numerals.{add-one}
use native.Mathlib.Omega.{arith}
use borrow.Author.Tests.{not-true, not-false}
use borrow.Rule.Slice.PartMut.{put_mid, mid_of}
use lib.ListN.{length, take, drop, set, length-drop, length-append}
use lib.Seq.{length-take-le}
use Rattle.text.specs.Buffer.{put, Puts}
use Rattle.text.specs.Result.{ok, error, map_result}
use Rattle.text.specs.Unicode.{is_high_surrogate, is_low_surrogate, is_surrogate, utf8}
use Rattle.text.specs.Utf16.{pair_value, scalar, text_of, the_text}
use Rattle.text.specs.Stages.Utf16.{unit_step_at}
use Rattle.text.proofs.BufferLaws.{SoFar, Splits, part_put, fits_next, goes_on, fits_from, begins_from, ends_from}
use Rattle.text.proofs.ByteLaws.{stores, size_1, size_2, size_3, size_4}
use Rattle.text.proofs.utf16.Decode as decoding
use Rattle.text.proofs.ResultLaws.{Checks, checks_start, checks_turn, checks_stop, checks_last}
use Rattle.text.proofs.ScalarLaws.{gap_below}
use Rattle.text.proofs.TestLaws.{and_is, within_is}
use Rattle.writer.specs.Spans.{is_some, joined, spans_from}
use Rattle.writer.proofs.LayoutLaws.{joined_cons, spans_none, spans_cons, length_spans}
use Rattle.writer.proofs.SpanLaws.{counted_some, counted_none}
use Rattle.reader.specs.Saveobj.{unit_count, units_before, stored_units, stored_strings, check_pairing}
use Rattle.reader.specs.Replies.{size_of}
use Rattle.reader.specs.Stages.Saveobj.{UnitsChecked, StringsFit, WritesAt}
use Rattle.reader.specs.declared.saveobj.Position.{Position}
use Rattle.reader.specs.Units.{unit_at, units_in}
use Rattle.reader.specs.Stages.Units.{UnitsInside, UnitsFit}
use Rattle.reader.proofs.saveobj.Lengths.{units_next, units_most}
use Rattle.reader.proofs.units.Laws.{length_units, reads_units, step_single, step_last, step_pair, step_unpaired, text_most}

-- ---- the stored strings

module _ (payload : List ℕ) (base n : ℕ) where
  pub length_stored : (i k : ℕ) → length (stored_strings payload base n i k) ≡ k
  unfolding stored_strings
  length_stored i zero = refl
  length_stored i (suc k) = ap suc (length_stored (suc i) k)

  -- the strings from string i on
  abbrev pub left : ℕ → List (List ℕ)
  left i = stored_strings payload base n i (n - i)

  left_all : left 0 ≡ stored_strings payload base n 0 n
  left_all =
      let z : n - 0 ≡ n = omega arith in
      rw z

  left_none : {i : ℕ} → n ≤ i → left i ≡ []
  unfolding stored_strings
  left_none {i} h =
      let z : n - i ≡ zero = omega arith in
      rw z

  left_next : {i : ℕ} → i < n → left i ≡ the_text (stored_units payload base n i) ∷ left (i + 1)
  unfolding stored_strings
  left_next {i} h =
      let k : n - i ≡ suc (n - suc i) = omega arith in
      rw (k, add-one i)

  -- the units of string i are there
  module _ (u : UnitsChecked payload base n) {unit count i : ℕ} (a : unit ≡ units_before payload base i) (h : i < n) (c : count ≡ unit_count payload base i) where
    pub units_inside : UnitsInside payload (base + n) unit count
    units_inside = record {
      there = omega (arith, u.units, units_next payload base i, units_most payload base (i + 1) n (omega arith));
      most = u.most;
    }

    pub units_are : units_in payload (base + n) unit count ≡ stored_units payload base n i
    units_are = rw (a, c)

-- strings that pass 29 have at most three bytes for a unit
pub stored_most : (payload : List ℕ) (base n : ℕ) → ((i : ℕ) → i < n → text_of (stored_units payload base n i) ≡ Some (the_text (stored_units payload base n i)))
    → (i k : ℕ) → i + k ≤ n → length (joined (stored_strings payload base n i k)) + 3 * units_before payload base i ≤ 3 * units_before payload base (i + k)
unfolding stored_strings flat_map
stored_most payload base n p i zero h = rw (add-zero i) (omega arith)
stored_most payload base n p i (suc k) h =
    let s : List ℕ = the_text (stored_units payload base n i) in
    let rest = stored_strings payload base n (i + 1) k in
    let e : i + suc k ≡ i + 1 + k = omega arith in
    rw (e, sym (add-one i))
    (omega
    (arith, stored_most payload base n p (i + 1) k (omega arith), units_next payload base i, length-append s (joined rest), text_most payload (base + n) (units_before payload base i) (unit_count payload base i) (p i (omega arith))))

-- ---- check 29

abbrev pub is_paired : List ℕ → ℕ → ℕ → ℕ → Bool
is_paired payload base n i = is_some (text_of (stored_units payload base n i))

-- 29 holds of the strings before string i, and these are their bytes and units
pub record Measuring (payload : List ℕ) (base n bytes k i : ℕ) : Type 0 where
  pub at : k ≡ units_before payload base i
  pub most : bytes ≤ 3 * k
  pub sized : bytes + length (joined (left payload base n i)) ≡ length (joined (stored_strings payload base n 0 n))
  pub checks : Checks 29 (is_paired payload base n) 0 n i

-- and of string i, which ends before unit end, the units before unit k are measured: j of them, with more bytes
pub record Within (payload : List ℕ) (base n bytes k i end : ℕ) : Type 0 where
  pub before : ℕ
  pub more : ℕ
  pub j : ℕ
  pub strings : Measuring payload base n before (units_before payload base i) i
  pub here : i < n
  pub units : UnitsInside payload (base + n) (units_before payload base i) (unit_count payload base i)
  pub bytes_are : bytes ≡ before + more
  pub at : k ≡ units_before payload base i + j
  pub last : end ≡ units_before payload base i + unit_count payload base i
  pub text : decoding.Measuring (stored_units payload base n i) more j

module _ (payload : List ℕ) (base n : ℕ) where
  pub measure_start : Measuring payload base n 0 0 0
  unfolding units_before
  measure_start = record {
    at = refl;
    most = omega arith;
    sized = omega (arith, ap (λ (ss : List (List ℕ)). length (joined ss)) (left_all payload base n));
    checks = checks_start 29 (is_paired payload base n) 0 n (omega arith);
  }

  module _ {bytes k i count : ℕ} (u : UnitsChecked payload base n) (m : Measuring payload base n bytes k i) (h : i < n) (c : count ≡ unit_count payload base i) where
    pub string_end_lem : k + count < 2 ^ 64
    string_end_lem = let i = units_inside payload base n u m.at h c in omega arith

    pub string_start : Within payload base n bytes k i (k + count)
    string_start = record {
      before = bytes;
      more = 0;
      j = 0;
      strings = rw (sym m.at) m;
      here = h;
      units = units_inside payload base n u refl h refl;
      bytes_are = omega arith;
      at = omega (arith, m.at);
      last = omega (arith, m.at, c);
      text = decoding.measure_start (reads_units payload (base + n) (units_before payload base i) (unit_count payload base i));
    }

  pub measure_last : {bytes k i : ℕ} → Measuring payload base n bytes k i → n ≤ i → ok (record { bytes = bytes; strings = n }) ≡ map_result size_of (check_pairing payload base n)
  unfolding check_pairing flat_map
  measure_last {bytes} {k} {i} m h =
      let b : bytes ≡ length (joined (stored_strings payload base n 0 n)) =
      omega (arith, m.sized, ap (λ (ss : List (List ℕ)). length (joined ss)) (left_none payload base n h)) in
      rw (checks_last 29 (is_paired payload base n) 0 n m.checks h, b) (rw (length_stored payload base n 0 n))

-- the units of one string
module _ {payload : List ℕ} {base n bytes k i end : ℕ} (w : Within payload base n bytes k i end) where
  abbrev us : List ℕ
  us = stored_units payload base n i

  many : length us ≡ unit_count payload base i
  many = length_units payload (base + n) (units_before payload base i) (unit_count payload base i)

  -- at most three for a unit
  pub bytes_fit : bytes < 2 ^ 64
  bytes_fit = omega (arith, w.units.there, w.units.most, w.strings.most, w.text.most, w.bytes_are, w.text.reading.inside, many)

  module _ (l : k < end) where
    inside : w.j < unit_count payload base i
    inside = omega (arith, w.at, w.last)

    -- one step
    goes : {v c size k' : ℕ} → Some (scalar v c) ≡ unit_step_at us w.j → size ≡ length (utf8 v) → size ≤ 4 → k' ≡ k + c → Within payload base n (bytes + size) k' i end
    goes {v} {c} {size} {k'} s z f e = record {
      before = w.before;
      more = w.more + size;
      j = w.j + c;
      strings = w.strings;
      here = w.here;
      units = w.units;
      bytes_are = omega (arith, w.bytes_are);
      at = omega (arith, w.at);
      last = w.last;
      text = decoding.measure_size w.text (omega (arith, many, inside)) s refl (z, f);
    }

    stops : None ≡ unit_step_at us w.j → error (record { number = 29; place = i }) ≡ map_result size_of (check_pairing payload base n)
    unfolding check_pairing
    stops s =
        let f = counted_none (text_of us) (decoding.measure_stop w.text (omega (arith, many, inside)) s refl) in
        rw (checks_stop 29 (is_paired payload base n) 0 n w.strings.checks w.here (ap is_some f))

    module _ {u : ℕ} (e : u ≡ unit_at payload (base + n) k) where
      is_unit : u ≡ unit_at payload (base + n) (units_before payload base i + w.j)
      is_unit = e ∙ ap (unit_at payload (base + n)) w.at

      single : is_surrogate u ≡ false → Some (scalar u 1) ≡ unit_step_at us w.j
      single g = step_single payload (base + n) (units_before payload base i) (unit_count payload base i) w.j inside is_unit g

      pub measure_1 : u < 0x80 → Within payload base n (bytes + 1) (k + 1) i end
      measure_1 h = goes (single (gap_below u (omega arith))) (size_1 u h) (omega arith) refl

      pub measure_2 : 0x80 ≤ u → u < 0x800 → Within payload base n (bytes + 2) (k + 1) i end
      measure_2 f h = goes (single (gap_below u (omega arith))) (size_2 u f h) (omega arith) refl

      module _ {r : Bool} (g : r ≡ is_surrogate u) where
        pub measure_3 : not r ≡ true → 0x800 ≤ u → u < 2 ^ 16 → Within payload base n (bytes + 3) (k + 1) i end
        measure_3 t f b = goes (single (sym g ∙ not-true r t)) (size_3 u f b) (omega arith) refl

        module _ (t : not r ≡ false) where
          surrogate : is_surrogate u ≡ true
          surrogate = sym g ∙ not-false r t

          pub measure_alone : k + 1 ≡ end → error (record { number = 29; place = i }) ≡ map_result size_of (check_pairing payload base n)
          measure_alone h =
              stops (step_last payload (base + n) (units_before payload base i) (unit_count payload base i) w.j inside is_unit surrogate (omega (arith, w.at, w.last)))

          module _ (h : k + 1 ≡ end → ⊥) where
            two : 2 ≤ unit_count payload base i - w.j
            two = omega (arith, w.at, w.last, h)

            module _ {v : ℕ} (d : v ≡ unit_at payload (base + n) (k + 1)) {p : Bool} (q : p ≡ (is_high_surrogate u && is_low_surrogate v)) where
              is_next : v ≡ unit_at payload (base + n) (units_before payload base i + (w.j + 1))
              is_next =
                  let z : k + 1 ≡ units_before payload base i + (w.j + 1) = omega (arith, w.at) in
                  d ∙ ap (unit_at payload (base + n)) z

              pub measure_4 : not p ≡ false → Within payload base n (bytes + 4) (k + 1 + 1) i end
              measure_4 y =
                  let h = sym q ∙ not-false p y in
                  let x = and_is (is_high_surrogate u) (is_low_surrogate v) h in
                  let a = within_is 0xD800 0xDBFF u x.0 in
                  let s =
                  step_pair payload (base + n) (units_before payload base i) (unit_count payload base i) w.j inside is_unit surrogate two is_next h in
                  goes s (size_4 (pair_value u v) (omega arith)) (omega arith) (omega arith)

              pub measure_unpaired : not p ≡ true → error (record { number = 29; place = i }) ≡ map_result size_of (check_pairing payload base n)
              measure_unpaired y =
                  stops
                  (step_unpaired payload (base + n) (units_before payload base i) (unit_count payload base i) w.j inside is_unit surrogate two is_next (sym q ∙ not-true p y))

  -- all of them
  pub string_last : end ≤ k → Measuring payload base n bytes k (i + 1)
  string_last h =
      let s : List ℕ = the_text us in
      let c = counted_some (text_of us) (decoding.measure_last w.text (omega (arith, many, w.at, w.last))) in
      let z : w.j ≡ unit_count payload base i = omega (arith, w.text.reading.inside, many, w.at, w.last) in
      let l = ap (λ (ss : List (List ℕ)). length (joined ss)) (left_next payload base n w.here) in
      record {
        at = omega (arith, w.at, z, units_next payload base i);
        most = omega (arith, w.strings.most, w.text.most, w.bytes_are, w.at);
        sized =
            omega
            (arith, w.strings.sized, w.bytes_are, l, c.1, ap length (joined_cons s (left payload base n (i + 1))), length-append s (joined (left payload base n (i + 1))));
        checks = checks_turn 29 (is_paired payload base n) 0 n w.strings.checks w.here c.0;
      }

pub ruleset measures = (measure_1, measure_2, measure_3, measure_4, measure_alone, measure_unpaired)

-- ---- writing

-- the strings before string i are written, and their spans; next is the position after them
pub record Writing (payload : List ℕ) (base n : ℕ) (t₀ s₀ : List ℕ) (at₀ : Position) (t s : List ℕ) (next : Position) (unit i : ℕ) : Type 0 where
  pub at : unit ≡ units_before payload base i
  pub bound : i ≤ n
  pub string : next.string ≡ at₀.string + i
  pub text : SoFar (take at₀.byte t₀ ++ joined (stored_strings payload base n 0 n)) (joined (left payload base n i)) t₀ t next.byte
  pub spans : SoFar (take (2 * at₀.string) s₀ ++ spans_from at₀.byte (stored_strings payload base n 0 n)) (spans_from next.byte (left payload base n i)) s₀ s (2 * next.string)

module _ (payload : List ℕ) (base n : ℕ) (t₀ s₀ : List ℕ) (at₀ : Position) (f : StringsFit payload base n at₀.byte (length t₀) at₀.string (length s₀)) where
  abbrev all : List (List ℕ)
  all = stored_strings payload base n 0 n

  span_room_lem : 2 * at₀.string + length (spans_from at₀.byte all) ≤ length s₀
  span_room_lem = omega (arith, f.spans, length_spans at₀.byte all, length_stored payload base n 0 n)

  pub write_start : Writing payload base n t₀ s₀ at₀ t₀ s₀ at₀ 0 0
  unfolding units_before
  write_start =
      record {
        at = refl;
        bound = omega arith;
        string = omega arith;
        text = rw (left_all payload base n) (begins_from t₀ (joined all) at₀.byte f.text);
        spans = rw (left_all payload base n) (begins_from s₀ (spans_from at₀.byte all) (2 * at₀.string) span_room_lem);
      }

  module _ {t s : List ℕ} {next : Position} {unit i count : ℕ} (m : Writing payload base n t₀ s₀ at₀ t s next unit i) (h : i < n) (c : count ≡ unit_count payload base i) where
    abbrev string : List ℕ
    string = the_text (units_in payload (base + n) unit count)

    string_is : string ≡ the_text (stored_units payload base n i)
    string_is = ap the_text (units_are payload base n f.checked m.at h c)

    text_next : Splits (joined (left payload base n i)) string (joined (left payload base n (i + 1)))
    text_next = record {
      is = ap joined (left_next payload base n h) ∙ joined_cons _ _ ∙ ap (λ (x : List ℕ). x ++ joined (left payload base n (i + 1))) (sym string_is);
    }

    spans_next : Splits (spans_from next.byte (left payload base n i)) (next.byte ∷ length string ∷ []) (spans_from (next.byte + length string) (left payload base n (i + 1)))
    spans_next = record { is = rw (left_next payload base n h, spans_cons, string_is) }

    text_room_lem : next.byte + length string ≤ length t
    text_room_lem = fits_next (fits_from t₀ (joined all) at₀.byte f.text) text_next m.text

    pub write_fits : UnitsFit payload (base + n) unit count (length (mid_of next.byte (length t - next.byte) t))
    write_fits = record {
      inside = units_inside payload base n f.checked m.at h c;
      is_text_lem = rw (units_are payload base n f.checked m.at h c) (f.paired i h);
      fits = omega (arith, text_room_lem, length-drop next.byte t, length-take-le (length t - next.byte) (drop next.byte t) (omega (arith, length-drop next.byte t)));
    }

    pub write_span : 2 * next.string + 2 ≤ length s
    write_span = fits_next (fits_from s₀ (spans_from at₀.byte all) (2 * at₀.string) span_room_lem) spans_next m.spans

    pub write_unit : unit + count < 2 ^ 64
    write_unit = let u = write_fits.inside in omega arith

    module _ {t' : List ℕ} {z : ℕ} (p : Puts (mid_of next.byte (length t - next.byte) t) 0 string z t') where
      pub write_end : next.byte + z ≤ length t
      write_end = omega (arith, text_room_lem, p.end)

      pub write_turn : Writing payload base n t₀ s₀ at₀ (put_mid next.byte (length t - next.byte) t t') (set (set s (2 * next.string) next.byte) (2 * next.string + 1) z) (record { byte = next.byte + z; string = next.string + 1 }) (unit + count) (i + 1)
      write_turn =
          let l : z ≡ length string = omega (arith, p.end) in
          let k : 2 * next.string + 1 ≡ suc (2 * next.string) = omega arith in
          let s' : List ℕ = set (set s (2 * next.string) next.byte) (2 * next.string + 1) z in
          let e : s' ≡ put s (2 * next.string) (next.byte ∷ length string ∷ []) =
          rw (l, k) (stores (next.byte ∷ length string ∷ []) s (2 * next.string) write_span) in
          let q = goes_on (fits_from s₀ (spans_from at₀.byte all) (2 * at₀.string) span_room_lem) spans_next m.spans s' (2 * (next.string + 1)) e (omega arith) in
          let b : next.byte + z ≡ next.byte + length string = ap (λ (y : ℕ). next.byte + y) l in
          record {
            at = omega (arith, m.at, units_next payload base i);
            bound = omega arith;
            string = omega (arith, m.string);
            text = goes_on (fits_from t₀ (joined all) at₀.byte f.text) text_next m.text _ _ (part_put t string next.byte text_room_lem p) b;
            spans = subst (λ (b : ℕ). SoFar (take (2 * at₀.string) s₀ ++ spans_from at₀.byte all) (spans_from b (left payload base n (i + 1))) s₀ s' (2 * (next.string + 1))) (sym b) q;
          }

  pub write_last : {t s : List ℕ} {next : Position} {unit i : ℕ} → Writing payload base n t₀ s₀ at₀ t s next unit i → n ≤ i → WritesAt (ok all) at₀ t₀ s₀ next t s
  unfolding flat_map
  write_last m h =
      let p = ends_from t₀ (joined all) at₀.byte f.text (rw (left_none payload base n h) at m.text) in
      let q = ends_from s₀ (spans_from at₀.byte all) (2 * at₀.string) span_room_lem (rw (left_none payload base n h, spans_none) at m.spans) in
      record {
        strings = omega (arith, m.string, m.bound, length_stored payload base n 0 n);
        end = p.end;
        text_after = p.buffer;
        spans_after = q.buffer;
      }
