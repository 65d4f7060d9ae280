-- Check 30 for one string: the outcomes of `Strings::measure_one`, and what a string that passed is.
-- Assumes nothing.
use Rattle.std.specs.Option.{unwrap_or}
use Prim.Native.Nat.{ℕ, zero, suc, ◌+◌, ◌-◌, ◌*◌, ◌≤◌, ◌<◌}
use mathlib.Core.Path.{◌≡◌, refl, sym, ap, ◌∙◌}
use mathlib.Core.Bool.{true}
use mathlib.Core.List.{List, [], ◌∷◌, flat_map}
use Rattle.std.specs.Prelude.{Option, Some, None, Result as Reply}
use Rattle.std.specs.Option.{option_map}
use native.Mathlib.Numerals.{add-one}
use native.Mathlib.Omega.{arith}
use borrow.Author.Tests.{le-leb, lt-leb, leb-true}
use Rattle.std.specs.Simd.{first_chunks}
use lib.Dec.{leb}
use lib.Seq.{get_or-take, get_or-drop}
use lib.ListN.{length, get_or, take, drop, length-take, length-append}
use Rattle.std.specs.Result.{result_ok}
use Rattle.text.specs.Replies.{CountsUnits}
use Rattle.text.specs.Result.{ok, error, check, ◌>>◌}
use Rattle.text.specs.Unicode.{utf16s}
use Rattle.text.specs.Utf8.{units_of, scalars8}
use Rattle.text.specs.declared.utf8.Utf8Error.{Utf8Error}
use Rattle.text.proofs.ResultLaws.{check_passed}
use Rattle.text.proofs.ScalarLaws.{units_le}
use Rattle.text.proofs.TestLaws.{not_both, either}
use Rattle.text.proofs.Utf8Laws.{map_is, not_some, spelled}
use Rattle.writer.specs.Array.{string_units, all_units}
use Rattle.writer.specs.Spans.{offset_at, length_at, end_at, string_at, strings_from, is_some, check_string}
use Rattle.writer.specs.Stages.Payload.{MeasuresString}

-- ---- pairs

-- a number of pair i, where a list is read by pairs
pub pair_number : (k i j : ℕ) (xs : List ℕ) → i < k → j < 2 → get_or (get_or (first_chunks 2 k xs) i []) j 0 ≡ get_or xs (2 * i + j) 0
pair_number zero i j xs h l = absurd (omega arith)
pair_number (suc k) zero j xs h l =
    let e : 2 * zero + j ≡ j = omega arith in
    get_or-take 2 xs j 0 l ∙ ap (λ (m : ℕ). get_or xs m 0) (sym e)
pair_number (suc k) (suc i) j xs h l =
    let e : 2 * suc i + j ≡ 2 + (2 * i + j) = omega arith in
    pair_number k i j (drop 2 xs) (omega arith) l ∙ get_or-drop 2 xs (2 * i + j) 0 ∙ ap (λ (m : ℕ). get_or xs m 0) (sym e)

module _ (xs : List ℕ) (k i : ℕ) {ps : List (List ℕ)} (e : ps ≡ first_chunks 2 k xs) (h : i < k) where
  pub pair_offset : get_or (get_or ps i []) 0 0 ≡ offset_at xs i
  pair_offset =
      let z : 2 * i + 0 ≡ 2 * i = omega arith in
      rw e (pair_number k i 0 xs h (omega arith)) ∙ ap (λ (m : ℕ). get_or xs m 0) z

  pub pair_length : get_or (get_or ps i []) 1 0 ≡ length_at xs i
  pair_length = rw e (pair_number k i 1 xs h (omega arith))

-- ---- a value that is there

pub some_is : (m : Option (List ℕ)) → is_some m ≡ true → m ≡ Some (unwrap_or m [])
some_is (Some us) e = refl
some_is None e = not_both e refl

pub counted_some : (m : Option (List ℕ)) {u : ℕ} → Some u ≡ option_map length m → (is_some m ≡ true) × (u ≡ length (unwrap_or m []))
counted_some (Some us) e = (refl, cc)
counted_some None e = not_some (sym e)

pub counted_none : (m : Option (List ℕ)) → None ≡ option_map length m → m ≡ None
counted_none (Some us) e = not_some e
counted_none None e = refl

-- ---- the outcomes

module _ (text spans : List ℕ) (i end : ℕ) {offset len : ℕ} (o : offset ≡ offset_at spans i) (l : len ≡ length_at spans i) where
  refused : check_string text spans i end ≡ error (record { number = 30; place = i }) → MeasuresString text spans i end None
  refused e = record { checked = sym e; units = tt }

  pub measured_past : length text < offset + len → MeasuresString text spans i end None
  unfolding check_string
  measured_past h =
      let z : length text < end_at spans i = omega arith in
      refused (either (leb end (offset_at spans i)) (λ t. rw (t, lt-leb (end_at spans i) (length text) z)) (λ t. rw t))

  pub measured_before : offset < end → MeasuresString text spans i end None
  unfolding check_string
  measured_before h =
      let a : offset_at spans i < end = omega arith in
      refused (simp lt-leb)

  module _ {last : ℕ} (e : last ≡ offset + len) where
    module _ (b : end ≤ offset) (f : last ≤ length text) {part : List ℕ} (k : part ≡ take (last - offset) (drop offset text)) {x : Reply ℕ Utf8Error} (c : CountsUnits part x) where
      counted : result_ok x ≡ option_map length (units_of (string_at text spans i))
      counted =
          let z : last - offset ≡ length_at spans i = omega arith in
          rw (k, z, o) at c.units

      pub measured_ill_formed : None ≡ result_ok x → MeasuresString text spans i end None
      unfolding check_string
      measured_ill_formed g =
          let a : end ≤ offset_at spans i = omega arith in
          let z : end_at spans i ≤ length text = omega arith in
          let n : units_of (string_at text spans i) ≡ None = counted_none (units_of (string_at text spans i)) (g ∙ counted) in
          refused (simp (le-leb, n))

      pub measured_units : {u : ℕ} → Some u ≡ result_ok x → MeasuresString text spans i end (Some (record { end = last; units = u }))
      unfolding check_string
      measured_units g =
          let a : end ≤ offset_at spans i = omega arith in
          let z : end_at spans i ≤ length text = omega arith in
          let s = counted_some (units_of (string_at text spans i)) (g ∙ counted) in
          record { checked = simp (le-leb, s.0, e, o, l); units = s.1 }

-- ---- a string that passed

pub record Passed (text spans : List ℕ) (i end next : ℕ) : Type 0 where
  pub order : end ≤ offset_at spans i
  pub inside : end_at spans i ≤ length text
  pub well_formed : units_of (string_at text spans i) ≡ Some (string_units (string_at text spans i))
  pub next_is : next ≡ end_at spans i

pub string_passed : (text spans : List ℕ) (i end : ℕ) {next : ℕ} → check_string text spans i end ≡ ok next → Passed text spans i end next
unfolding check_string
string_passed text spans i end {next} e =
    let inside = check 30 (leb (end_at spans i) (length text)) i in
    let well_formed = check 30 (is_some (units_of (string_at text spans i))) i in
    let p = check_passed 30 (leb end (offset_at spans i)) i (inside >> (well_formed >> ok (end_at spans i))) e in
    let q = check_passed 30 (leb (end_at spans i) (length text)) i (well_formed >> ok (end_at spans i)) p.1 in
    let r = check_passed 30 (is_some (units_of (string_at text spans i))) i (ok (end_at spans i)) q.1 in
    let k = r.1 in
    record {
      order = leb-true end (offset_at spans i) p.0;
      inside = leb-true (end_at spans i) (length text) q.0;
      well_formed = some_is (units_of (string_at text spans i)) r.0;
      next_is = cc;
    }

-- its code units are at most its bytes
pub units_most : {text spans : List ℕ} {i end next : ℕ} → Passed text spans i end next → length (string_units (string_at text spans i)) ≤ length_at spans i
units_most {text} {spans} {i} p =
    let m = map_is utf16s (scalars8 (string_at text spans i)) p.well_formed in
    omega
    (arith, ap length m.1.1, units_le m.0, ap length (spelled (string_at text spans i) m.1.0).bytes, length-take (length_at spans i) (drop (offset_at spans i) text))

-- ---- strings in a row

pub strings_cons : (text spans : List ℕ) (i n : ℕ) → i < n → strings_from text spans i (n - i) ≡ string_at text spans i ∷ strings_from text spans (i + 1) (n - (i + 1))
unfolding strings_from
strings_cons text spans i n h =
    let k : n - i ≡ suc (n - suc i) = omega arith in
    rw (k, add-one i)

pub strings_at : (text spans : List ℕ) (n i k : ℕ) → k < n → get_or (strings_from text spans i n) k [] ≡ string_at text spans (i + k)
unfolding strings_from
strings_at text spans zero i k h = absurd (omega arith)
strings_at text spans (suc n) i zero h =
    let z : i + 0 ≡ i = omega arith in
    rw z
strings_at text spans (suc n) i (suc k) h =
    let s : i + suc k ≡ suc i + k = omega arith in
    rw s (strings_at text spans n (suc i) k (omega arith))

pub units_cons : (s : List ℕ) (ss : List (List ℕ)) → length (all_units (s ∷ ss)) ≡ length (string_units s) + length (all_units ss)
unfolding flat_map
units_cons s ss = length-append (string_units s) (all_units ss)
