-- The loop of `Strings::measure`, and the outcomes of `measure_payload`.
-- Assumes nothing.
use Prim.Native.Nat.{ℕ, zero, suc, ◌+◌, ◌*◌, ◌-◌, ◌/◌, ◌%◌, ◌^◌, ◌≤◌, ◌<◌}
use mathlib.Core.Path.{◌≡◌, refl, sym, ap, ◌∙◌}
use mathlib.Core.Bool.{Bool, true, false}
use mathlib.Core.List.{List, flat_map}
use Rattle.std.specs.Int.{div_ceil}
use Rattle.std.specs.Prelude.{Some, None}
use native.Mathlib.Numerals.{add-one}
use native.Mathlib.Omega.{arith}
use borrow.Author.Tests.{le-leb, lt-leb, eq-eqb, ne_eqb}
use lib.Dec.{leb}
use lib.ListN.{length}
use Rattle.text.specs.Result.{Result, ok, error, map_result, check, fold_range, ◌>>◌, ◌>>=◌}
use Rattle.text.specs.declared.error.Failure.{Failure}
use Rattle.text.proofs.ResultLaws.{seq_passed, fold_range_done, fold_range_yes, fold_range_no, fold_range_passed}
use Rattle.writer.specs.Array.{all_units, payload, is_shape, check_shape, array_of}
use Rattle.writer.specs.Spans.{string_at, strings_from, strings_in, check_string, check_strings}
use Rattle.writer.specs.Stages.Payload.{MeasuresString, measured_strings, array_in}
use Rattle.writer.specs.Replies.{measured_payload}
use Rattle.writer.specs.declared.checks.StringSize.{StringSize}
use Rattle.writer.proofs.ArrayLaws.{length_payload}
use Rattle.writer.proofs.StringWordLaws.{length_string_words, length_strings}
use Rattle.writer.proofs.SpanLaws.{string_passed, units_most, strings_cons, units_cons}

-- ---- the loop

-- the strings before string i passed, and these are their units and the end of the last
pub record Measuring (text spans : List ℕ) (n units end i : ℕ) : Type 0 where
  pub bound : i ≤ n
  pub most : units ≤ end
  pub inside : end ≤ length text
  pub whole :
      measured_strings text spans n
      ≡ (fold_range (check_string text spans) i n end >> ok (units + length (all_units (strings_from text spans i (n - i)))))

module _ (text spans : List ℕ) (n : ℕ) where
  pub measure_start : Measuring text spans n 0 0 0
  unfolding measured_strings
  measure_start =
      let z : n - 0 ≡ n = omega arith in
      let w : 0 + length (all_units (strings_from text spans 0 n)) ≡ length (all_units (strings_from text spans 0 n)) = omega arith in
      record { bound = omega arith; most = omega arith; inside = omega arith; whole = rw (z, w) }

  module _ {units end i : ℕ} (m : Measuring text spans n units end i) (h : i < n) where
    module _ {s : StringSize} (w : MeasuresString text spans i end (Some s)) where
      -- with one string more
      measure_bounds : (units + s.units ≤ s.end) × (s.end ≤ length text)
      measure_bounds =
          let p = string_passed text spans i end (sym w.checked) in
          let u = units_most p in
          (omega (arith, w.units), omega arith)

      pub measure_fits : length text < 2 ^ 64 → units + s.units < 2 ^ 64
      measure_fits f = omega (arith, measure_bounds)

      units_on : units + length (all_units (strings_from text spans i (n - i))) ≡ units + s.units + length (all_units (strings_from text spans (i + 1) (n - (i + 1))))
      units_on =
          rw (strings_cons text spans i n h) (omega (arith, w.units, units_cons (string_at text spans i) (strings_from text spans (i + 1) (n - (i + 1)))))

      pub measure_turn : Measuring text spans n (units + s.units) s.end (i + 1)
      measure_turn =
          let b = measure_bounds in
          record {
            bound = omega arith;
            most = b.0;
            inside = b.1;
            whole = rw (fold_range_yes (check_string text spans) i n end h (sym w.checked), units_on) at m.whole;
          }

    pub measure_stop : MeasuresString text spans i end None → error (record { number = 30; place = i }) ≡ measured_strings text spans n
    measure_stop w = sym (rw (fold_range_no (check_string text spans) i n end h (sym w.checked)) at m.whole)

  pub measure_last : {units end i : ℕ} → Measuring text spans n units end i → n ≤ i → ok units ≡ measured_strings text spans n
  unfolding strings_from flat_map
  measure_last {units} {end} {i} m h =
      let z : n - i ≡ zero = omega arith in
      let k : units + 0 ≡ units = omega arith in
      sym (rw (fold_range_done (check_string text spans) i n end h, z) at m.whole ∙ ap ok k)

-- the units of all strings are at most the text's bytes
units_from : (text spans : List ℕ) (k i n end : ℕ) {last : ℕ} → i + k ≡ n → fold_range (check_string text spans) i n end ≡ ok last → end ≤ length text
    → end + length (all_units (strings_from text spans i k)) ≤ length text
unfolding strings_from flat_map
units_from text spans zero i n end c e h = omega arith
units_from text spans (suc k) i n end c e h =
    let p = fold_range_passed (check_string text spans) i n end (omega arith) e in
    let s = string_passed text spans i end p.1.0 in
    let u = units_most s in
    let rest = units_from text spans k (suc i) n p.0 (omega arith) (rw (add-one i) at p.1.1) (omega arith) in
    omega (arith, rest, units_cons (string_at text spans i) (strings_from text spans (suc i) k))

units_all : (text spans : List ℕ) (n : ℕ) {last : ℕ} → fold_range (check_string text spans) 0 n 0 ≡ ok last → length (all_units (strings_from text spans 0 n)) ≤ length text
units_all text spans n e = omega (arith, units_from text spans n 0 n 0 (omega arith) e (omega arith))

-- so that three more fit 64 bits
pub units_fit : (text spans : List ℕ) (n : ℕ) {u : ℕ} → length text * 1 < 2 ^ 63 → ok u ≡ measured_strings text spans n → u + 3 < 2 ^ 64
unfolding measured_strings
units_fit text spans n {u} f e =
    let p = seq_passed (fold_range (check_string text spans) 0 n 0) (ok (length (all_units (strings_from text spans 0 n)))) (sym e) in
    let k = p.1.1 in
    let z : length (all_units (strings_from text spans 0 n)) ≡ u = cc in
    omega (arith, units_all text spans n p.1.0)

-- ---- the outcomes of `measure_payload`

-- a function of the value after two checks
map_checks : {A : Type 0} (f : A → ℕ) (m : Result (Unit {0})) (t : Bool) (p : ℕ) (a : A) → map_result f (m >> (check 32 t p >> ok a)) ≡ (m >> (check 32 t p >> ok (f a)))
map_checks f (ok tt) true p a = refl
map_checks f (ok tt) false p a = refl
map_checks f (error e) t p a = refl

-- the strings or their units after check 30, and what follows from either
map_strings : {A B C : Type 0} (f : B → C) (m : Result ℕ) (a : A) (g : A → Result B) (u : ℕ) (k : ℕ → Result C) → map_result f (g a) ≡ k u
    → map_result f ((m >> ok a) >>= g) ≡ ((m >> ok u) >>= k)
map_strings f (ok e) a g u k h = h
map_strings f (error e) a g u k h = refl

-- the words of a payload, by the number of units
abbrev pub payload_words : List ℕ → List ℕ → ℕ → ℕ
payload_words dims spans units = 2 + length dims + length spans / 2 + div_ceil units 4

module _ (dims text spans : List ℕ) where
  words_are : length (payload (array_in dims text spans)) ≡ payload_words dims spans (length (all_units (strings_in text spans)))
  words_are =
      omega
      (arith, length_payload (array_in dims text spans), length_string_words (strings_in text spans), length_strings text spans 0 (length spans / 2))

  -- the checks as the code makes them, from the number of units
  abbrev units_checked : ℕ → Result ℕ
  units_checked u = do
    check_shape dims (length spans / 2)
    check 32 (leb (payload_words dims spans u) 2097152) (payload_words dims spans u)
    ok (payload_words dims spans u)

  measured_is : length spans % 2 ≡ 0 → measured_payload dims text spans ≡ (measured_strings text spans (length spans / 2) >>= units_checked)
  unfolding array_of check_strings measured_strings
  measured_is e =
      let a = array_in dims text spans in
      let w = length (payload a) in
      rw (eq-eqb (length spans % 2) 0 e)
      (map_strings (λ a. length (payload a)) (fold_range (check_string text spans) 0 (length spans / 2) 0) (strings_in text spans) _
      (length (all_units (strings_in text spans))) _
      (map_checks (λ a. length (payload a)) (check_shape dims (length (strings_in text spans))) (leb w 2097152) w a
      ∙ rw (words_are, length_strings text spans 0 (length spans / 2))))

  pub payload_odd : (length spans % 2 ≡ 0 → ⊥) → error (record { number = 30; place = length spans }) ≡ measured_payload dims text spans
  unfolding array_of check_strings
  payload_odd h = simp (ne_eqb (length spans % 2) 0 h)

  module _ (e : length spans % 2 ≡ 0) where
    pub payload_refused : {f : Failure} → error f ≡ measured_strings text spans (length spans / 2) → error f ≡ measured_payload dims text spans
    payload_refused s = sym (rw (sym s) at (measured_is e))

    module _ {u : ℕ} (s : ok u ≡ measured_strings text spans (length spans / 2)) {r : Bool} (k : r ≡ is_shape dims (length spans / 2)) where
      pub payload_shapeless : r ≡ false → error (record { number = 31; place = length spans / 2 }) ≡ measured_payload dims text spans
      payload_shapeless t = sym (rw (sym s, ← k, t) at (measured_is e))

      module _ {words : ℕ} (w : words ≡ payload_words dims spans u) where
        pub payload_long : r ≡ true → 2097152 < words → error (record { number = 32; place = words }) ≡ measured_payload dims text spans
        payload_long t h = rw w (sym (rw (sym s, ← k, t, lt-leb (payload_words dims spans u) 2097152 (omega arith)) at (measured_is e)))

        pub payload_fits : r ≡ true → words ≤ 2097152 → ok words ≡ measured_payload dims text spans
        payload_fits t h = rw w (sym (rw (sym s, ← k, t, le-leb (payload_words dims spans u) 2097152 (omega arith)) at (measured_is e)))
