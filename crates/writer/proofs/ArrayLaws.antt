-- The words of a payload, what an array that passed its checks is, and that strings end to end pass theirs.
-- Assumes nothing.
use Prim.Native.Nat.{ℕ, suc, ◌+◌, ◌*◌, ◌/◌, ◌%◌, ◌≤◌, ◌<◌}
use mathlib.Core.Path.{◌≡◌, refl, sym, ap, ap₂, ◌∙◌}
use mathlib.Core.Bool.{true}
use mathlib.Core.List.{List, [], ◌∷◌, ◌++◌, flat_map}
use Rattle.std.specs.Prelude.{Some}
use native.Mathlib.Numerals.{add-one}
use native.Mathlib.Omega.{arith}
use borrow.Author.Tests.{le-leb, eq-eqb, eqb-true, leb-true}
use lib.Dec.{leb, eqb}
use lib.ListN.{length, get_or, take, drop, length-append, length-drop}
use lib.Seq.{drop-drop, drop_at, take_at, get_or-drop}
use Rattle.text.specs.Result.{ok, check, fold_range, ◌>>◌}
use Rattle.text.specs.Utf8.{units_of}
use Rattle.text.proofs.ResultLaws.{check_passed, seq_passed, bind_passed, fold_range_done, fold_range_yes, fold_range_step}
use Rattle.writer.specs.Array.{Array, string_units, unit_counts, all_units, string_words, payload, is_shape, check_shape, array_of}
use Rattle.writer.specs.Spans.{offset_at, length_at, end_at, string_at, strings_from, strings_in, joined, spans_from, is_some, check_string, check_strings}
use Rattle.writer.specs.Stages.Payload.{array_in}
use Rattle.writer.specs.Words.{packed}
use Rattle.writer.proofs.LayoutLaws.{length_spans}
use Rattle.writer.proofs.SpanLaws.{Passed, string_passed}
use Rattle.writer.proofs.StringWordLaws.{length_strings}

-- ---- the words of a payload

pub payload_is : (a : Array) → payload a ≡ 1 ∷ length a.dims ∷ (a.dims ++ (unit_counts a.strings ++ packed (all_units a.strings)))
unfolding payload string_words
payload_is a = refl

pub length_payload : (a : Array) → length (payload a) ≡ 2 + length a.dims + length (string_words a.strings)
unfolding payload
length_payload a = omega (arith, length-append a.dims (string_words a.strings))

-- ---- an array that passed

pub record ArrayPassed (dims text spans : List ℕ) (a : Array) : Type 0 where
  pub even : length spans % 2 ≡ 0
  pub end : ℕ
  pub strings : fold_range (check_string text spans) 0 (length spans / 2) 0 ≡ ok end
  pub shape : is_shape dims (length spans / 2) ≡ true
  pub words : length (payload (array_in dims text spans)) ≤ 2097152
  pub is : a ≡ array_in dims text spans

strings_passed : (text spans : List ℕ) {ss : List (List ℕ)} → check_strings text spans ≡ ok ss
    → (length spans % 2 ≡ 0) × ((end : ℕ) × ((fold_range (check_string text spans) 0 (length spans / 2) 0 ≡ ok end) × (ss ≡ strings_in text spans)))
unfolding check_strings
strings_passed text spans e =
    let all = fold_range (check_string text spans) 0 (length spans / 2) 0 in
    let p = check_passed 30 (eqb (length spans % 2) 0) (length spans) (all >> ok (strings_in text spans)) e in
    let q = seq_passed all (ok (strings_in text spans)) p.1 in
    let k = q.1.1 in
    (eqb-true (length spans % 2) 0 p.0, (q.0, (q.1.0, cc)))

pub array_passed : (dims text spans : List ℕ) {a : Array} → array_of dims text spans ≡ ok a → ArrayPassed dims text spans a
unfolding array_of
array_passed dims text spans {a} e =
    let n = length_strings text spans 0 (length spans / 2) in
    let w = length (payload (array_in dims text spans)) in
    let p = bind_passed (check_strings text spans) _ e in
    let q = strings_passed text spans p.1.0 in
    let rest : (check_shape dims (length spans / 2) >> (check 32 (leb w 2097152) w >> ok (array_in dims text spans))) ≡ ok a = rw (q.1.1.1, n) at p.1.1 in
    let r = check_passed 31 (is_shape dims (length spans / 2)) (length spans / 2) _ rest in
    let t = check_passed 32 (leb w 2097152) w (ok (array_in dims text spans)) r.1 in
    let k = t.1 in
    record { even = q.0; end = q.1.0; strings = q.1.1.0; shape = r.0; words = leb-true w 2097152 t.0; is = cc }

pub array_is : (dims text spans : List ℕ) {a : Array} → array_of dims text spans ≡ ok a → a ≡ array_in dims text spans
array_is dims text spans e = (array_passed dims text spans e).is

-- ---- its strings

module _ (dims text spans : List ℕ) {a : Array} (e : array_of dims text spans ≡ ok a) (i : ℕ) (h : i < length spans / 2) where
  passed_at : (end : ℕ) × ((next : ℕ) × Passed text spans i end next)
  passed_at =
      let p = fold_range_step (check_string text spans) 0 (length spans / 2) 0 (array_passed dims text spans e).strings i (omega arith) h in
      (p.0, (p.1.0, string_passed text spans i p.0 p.1.1))

  pub strings_inside : end_at spans i ≤ length text
  strings_inside = passed_at.1.1.inside

  pub strings_well_formed : units_of (string_at text spans i) ≡ Some (string_units (string_at text spans i))
  strings_well_formed = passed_at.1.1.well_formed

-- ---- strings end to end

-- from byte o of a text and span i on they pass 30, and are cut out again
module _ (t s : List ℕ) where
  cut_from : (ss : List (List ℕ)) (i n o : ℕ) → i + length ss ≡ n → ((j : ℕ) → j < length ss → is_some (units_of (get_or ss j [])) ≡ true)
      → drop (2 * i) s ≡ spans_from o ss → drop o t ≡ joined ss → o ≤ length t
      → (fold_range (check_string t s) i n o ≡ ok (o + length (joined ss))) × (strings_from t s i (length ss) ≡ ss)
  unfolding check_string strings_from spans_from flat_map
  cut_from [] i n o q f es et l =
      let z : o ≡ o + 0 = omega arith in
      (fold_range_done (check_string t s) i n o (omega arith) ∙ ap ok z, refl)
  cut_from (x ∷ ss) i n o q f es et l =
      let z : 2 * i + 0 ≡ 2 * i = omega arith in
      let k : 2 * suc i ≡ 2 * i + 2 = omega arith in
      let a : offset_at s i ≡ o = rw z at (sym (get_or-drop (2 * i) s 0 0) ∙ ap (λ (r : List ℕ). get_or r 0 0) es) in
      let b : length_at s i ≡ length x = sym (get_or-drop (2 * i) s 1 0) ∙ ap (λ (r : List ℕ). get_or r 1 0) es in
      let c : string_at t s i ≡ x = rw (a, b) (ap (take (length x)) et ∙ take_at x (joined ss) (length x) refl) in
      let m = length-append x (joined ss) in
      let w : o + length x ≤ length t = omega (arith, ap length et, length-drop o t) in
      let e : o + length x + length (joined ss) ≡ o + length (x ++ joined ss) = omega arith in
      let y : check_string t s i o ≡ ok (o + length x) =
      rw (c, a, b, le-leb o o (omega arith), le-leb (o + length x) (length t) w, f 0 (omega arith)) in
      let r =
      cut_from ss (suc i) n (o + length x) (omega arith) (λ j h. f (suc j) (omega arith)) (rw k (sym (drop-drop 2 (2 * i) s) ∙ ap (drop 2) es))
      (sym (drop-drop (length x) o t) ∙ ap (drop (length x)) et ∙ drop_at x (joined ss) (length x) refl) w in (
        fold_range_yes (check_string t s) i n o (omega arith) y ∙ rw (add-one i) (r.0 ∙ ap ok e),
        ap₂ (λ (y : List ℕ) (q : List (List ℕ)). y ∷ q) c r.1,
      )

pub cut_again : (ss : List (List ℕ)) → ((j : ℕ) → j < length ss → is_some (units_of (get_or ss j [])) ≡ true) → check_strings (joined ss) (spans_from 0 ss) ≡ ok ss
unfolding check_strings
cut_again ss f =
    let r = cut_from (joined ss) (spans_from 0 ss) ss 0 (length ss) 0 (omega arith) f refl refl (omega arith) in
    let k : length (spans_from 0 ss) / 2 ≡ length ss = omega (arith, length_spans 0 ss) in
    simp (eq-eqb (length (spans_from 0 ss) % 2) 0 (omega (arith, length_spans 0 ss)), k, r.0) (ap ok r.1)

-- the array of strings that pass, by its shape and its words
pub array_accepted : (dims text spans : List ℕ) {ss : List (List ℕ)} → check_strings text spans ≡ ok ss → is_shape dims (length ss) ≡ true
    → length (payload (record { dims = dims; strings = ss })) ≤ 2097152 → array_of dims text spans ≡ ok (record { dims = dims; strings = ss })
unfolding array_of
array_accepted dims text spans {ss} e s l = rw (e, s, le-leb (length (payload (record { dims = dims; strings = ss }))) 2097152 l)
