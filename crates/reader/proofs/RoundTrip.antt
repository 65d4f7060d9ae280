-- What is written for an array is read back as its strings, whatever words follow.
-- Assumes nothing.
use mathlib.Core.Path.{◌≡◌, refl, ◌∙◌, sym, ap, subst}
use mathlib.Core.Bool.{true}
use mathlib.Core.List.{List, [], ◌∷◌, ◌++◌, append_assoc, append-nil, flat_map}
use Rattle.std.specs.Prelude.{Some}
use Prim.Native.Nat.{ℕ, zero, suc, ◌+◌, ◌-◌, ◌*◌, ◌/◌, ◌^◌, ◌≤◌, ◌<◌}
use native.Mathlib.Omega.{arith}
use borrow.Author.Tests.{le-leb, lt-ltb, ne_eqb}
use lib.ListN.{length, get_or, take, drop, length-append, length-map, get_or-append}
use lib.Seq.{get_or-append-add, split_at, take_at, take-suc, take-length, drop-cons, drop-length}
use Rattle.text.specs.Result.{ok}
use Rattle.text.specs.Unicode.{Below}
use Rattle.text.specs.Utf8.{units_of}
use Rattle.text.specs.Utf16.{text_of}
use Rattle.text.proofs.ResultLaws.{each_holds}
use Rattle.text.proofs.ScalarLaws.{below_append}
use Rattle.text.proofs.TestLaws.{within_yes}
use Rattle.text.proofs.Utf16Laws.{units_text, units_below}
use Rattle.writer.specs.Array.{Array, string_units, unit_counts, all_units, payload, is_shape, array_of}
use Rattle.writer.specs.Spans.{is_some}
use Rattle.writer.specs.Words.{packed}
use Rattle.writer.proofs.ArrayLaws.{payload_is, array_passed, strings_well_formed}
use Rattle.writer.proofs.ShapeLaws.{shape_product}
use Rattle.writer.proofs.SpanLaws.{strings_at}
use Rattle.writer.proofs.StringWordLaws.{length_strings, all_units_append}
use Rattle.writer.proofs.WordLaws.{length_packed}
use Rattle.reader.specs.Saveobj.{stored_dims, unit_count, units_before, stored_units, stored_strings, check_header, check_sum, check_unit_count, check_pairing, decode_payload}
use Rattle.reader.specs.Units.{units_in}
use Rattle.reader.proofs.saveobj.Lengths.{sum_fits}
use Rattle.reader.proofs.units.Packed.{part_within}
use Rattle.reader.proofs.saveobj.Strings.{is_paired}

-- what writing asks of an array, with x the words that follow it
pub record Writable (a : Array) (x : List ℕ) : Type 0 where
  pub shape : is_shape a.dims (length a.strings) ≡ true
  pub well_formed : (i : ℕ) → i < length a.strings → units_of (get_or a.strings i []) ≡ Some (string_units (get_or a.strings i []))
  pub most : length (payload a ++ x) ≤ 2097152

-- ---- strings and their units, by index

pub counts_at : (ss : List (List ℕ)) (i : ℕ) → i < length ss → get_or (unit_counts ss) i 0 ≡ length (string_units (get_or ss i []))
counts_at [] i h = absurd (omega arith)
counts_at (s ∷ ss) zero h = refl
counts_at (s ∷ ss) (suc i) h = counts_at ss i (omega arith)

units_split : (ss : List (List ℕ)) (i : ℕ) → i < length ss → all_units ss ≡ all_units (take i ss) ++ (string_units (get_or ss i []) ++ all_units (drop (suc i) ss))
unfolding flat_map
units_split ss i h = ap all_units (split_at ss i [] h) ∙ all_units_append (take i ss) (get_or ss i [] ∷ drop (suc i) ss)

units_take : (ss : List (List ℕ)) (i : ℕ) → i < length ss → length (all_units (take (suc i) ss)) ≡ length (all_units (take i ss)) + length (string_units (get_or ss i []))
unfolding flat_map
units_take ss i h =
    ap (λ (rs : List (List ℕ)). length (all_units rs)) (take-suc ss i [] h)
    ∙ ap length (all_units_append (take i ss) (get_or ss i [] ∷ []) ∙ ap (λ (us : List ℕ). all_units (take i ss) ++ us) (append-nil (string_units (get_or ss i []))))
    ∙ length-append (all_units (take i ss)) (string_units (get_or ss i []))

all_below : (ss : List (List ℕ)) → ((i : ℕ) → i < length ss → units_of (get_or ss i []) ≡ Some (string_units (get_or ss i []))) → Below 65536 (all_units ss)
unfolding flat_map
all_below [] f = tt
all_below (s ∷ ss) f =
    below_append 65536 (string_units s) (all_units ss) (units_below s (string_units s) (f 0 (omega arith))) (all_below ss (λ i h. f (suc i) (omega arith)))

-- ---- the whole payload

-- the words before the units
abbrev head : List ℕ → List (List ℕ) → List ℕ
head ds ss = 1 ∷ length ds ∷ (ds ++ unit_counts ss)

module _ (a : Array) (x : List ℕ) (h : Writable a x) where
  abbrev ds : List ℕ
  ds = a.dims

  abbrev ss : List (List ℕ)
  ss = a.strings

  abbrev n : ℕ
  n = length ss

  abbrev base : ℕ
  base = 2 + length ds

  abbrev w : List ℕ
  w = head ds ss ++ (packed (all_units ss) ++ x)

  split : payload a ++ x ≡ w
  split =
      ap (λ (r : List ℕ). r ++ x) (payload_is a)
      ∙ ap (λ (r : List ℕ). (1 ∷ length ds ∷ r) ++ x) (sym (append_assoc ds (unit_counts ss) (packed (all_units ss))))
      ∙ append_assoc (head ds ss) (packed (all_units ss)) x

  length_counts : length (unit_counts ss) ≡ n
  length_counts = length-map ss (λ (s : List ℕ). length (string_units s))

  length_head : length (head ds ss) ≡ base + n
  length_head = omega (arith, length-append ds (unit_counts ss), length_counts)

  length_words : length w ≡ base + n + ((length (all_units ss) + 3) / 4 + length x)
  length_words =
      omega (arith, length-append (head ds ss) (packed (all_units ss) ++ x), length_head, length-append (packed (all_units ss)) x, length_packed (all_units ss))

  most : length w ≤ 2097152
  most = subst (λ (v : List ℕ). length v ≤ 2097152) split h.most

  dims_are : stored_dims w ≡ ds
  dims_are = ap (take (length ds)) (append_assoc ds (unit_counts ss) (packed (all_units ss) ++ x)) ∙ take_at ds _ (length ds) refl

  -- the number of units of all strings is small
  few : length (all_units ss) < 2 ^ 64 - 1
  few = omega (arith, most, length_words)

  length_at_lem : (i : ℕ) → i < n → get_or w (base + i) 0 ≡ length (string_units (get_or ss i []))
  length_at_lem i l =
      let k : base + i ≡ suc (suc (length ds + i)) = omega arith in
      rw k
      (get_or-append (ds ++ unit_counts ss) (packed (all_units ss) ++ x) 0 (length ds + i) (omega (arith, length-append ds (unit_counts ss), length_counts))
      ∙ get_or-append-add ds (unit_counts ss) i 0 ∙ counts_at ss i l)

  count_most : (i : ℕ) → i < n → length (all_units (take i ss)) + length (string_units (get_or ss i [])) ≤ length (all_units ss)
  count_most i l =
      omega
      (arith, ap length (units_split ss i l), length-append (all_units (take i ss)) (string_units (get_or ss i []) ++ all_units (drop (suc i) ss)), length-append (string_units (get_or ss i [])) (all_units (drop (suc i) ss)))

  count_is : (i : ℕ) → i < n → unit_count w base i ≡ length (string_units (get_or ss i []))
  unfolding unit_count
  count_is i l =
      rw (length_at_lem i l) (simp (ne_eqb (length (string_units (get_or ss i []))) (2 ^ 64 - 1) (λ e. omega (arith, few, count_most i l))))

  before_is : (i : ℕ) → i ≤ n → units_before w base i ≡ length (all_units (take i ss))
  unfolding units_before flat_map
  before_is zero l = refl
  before_is (suc i) l = omega (arith, before_is i (omega arith), count_is i (omega arith), units_take ss i (omega arith))

  header_is : check_header w ≡ ok (record { base = base; strings = n })
  unfolding check_header
  header_is =
      simp (
        within_yes 2 2097152 (length w) (omega (arith, length_words)) most,
        le-leb base (length w) (omega (arith, length_words)),
        dims_are,
        shape_product ds n h.shape,
        le-leb (base + n) (length w) (omega (arith, length_words)),
      )

  sum_is : check_sum w base n ≡ ok (length (all_units ss))
  unfolding check_sum units_before
  sum_is =
      rw (each_holds 27 (sum_fits w base) n
      (λ i l.
      lt-ltb (units_before w base i + unit_count w base i) (2 ^ 64)
      (omega (arith, before_is i (omega arith), count_is i l, count_most i l, few))))
      (ap ok (before_is n (omega arith) ∙ ap (λ (rs : List (List ℕ)). length (all_units rs)) (take-length ss)))

  lengths_are : check_unit_count w base n ≡ ok tt
  unfolding check_unit_count
  lengths_are = rw sum_is (simp (le-leb (length (all_units ss)) (4 * (length w - (base + n))) (omega (arith, length_words))))

  units_is : (i : ℕ) → i < n → stored_units w base n i ≡ string_units (get_or ss i [])
  units_is i l =
      let us : List ℕ = string_units (get_or ss i []) in
      let b = all_units (take i ss) in
      let r = all_units (drop (suc i) ss) in
      rw (before_is i (omega arith), count_is i l, sym length_head)
      (subst (λ (v : List ℕ). units_in (head ds ss ++ (packed v ++ x)) (length (head ds ss)) (length b) (length us) ≡ us) (sym (units_split ss i l))
      (part_within (head ds ss) b us r x (subst (Below 65536) (units_split ss i l) (all_below ss h.well_formed))))

  text_is : (i : ℕ) → i < n → text_of (stored_units w base n i) ≡ Some (get_or ss i [])
  text_is i l = ap text_of (units_is i l) ∙ units_text (get_or ss i []) (string_units (get_or ss i [])) (h.well_formed i l)

  stored_are : (k i : ℕ) → i + k ≡ n → stored_strings w base n i k ≡ drop i ss
  unfolding stored_strings
  stored_are zero i e =
      let z : i ≡ n = omega arith in
      rw z (sym (drop-length ss))
  stored_are (suc k) i e =
      let l : i < n = omega arith in
      rw (drop-cons ss i [] l, text_is i l) (ap (λ (rs : List (List ℕ)). get_or ss i [] ∷ rs) (stored_are k (suc i) (omega arith)))

  strings_are : check_pairing w base n ≡ ok ss
  unfolding check_pairing
  strings_are =
      rw (each_holds 29 (is_paired w base n) n (λ i l. ap is_some (text_is i l))) (ap ok (stored_are n 0 (omega arith)))

  round_trip_of : decode_payload (payload a ++ x) ≡ ok a.strings
  unfolding decode_payload
  round_trip_of = rw split (rw header_is (rw lengths_are strings_are))

-- ---- an array that writing accepted

writable : (dims text spans : List ℕ) {a : Array} → array_of dims text spans ≡ ok a → (x : List ℕ) → length (payload a ++ x) ≤ 2097152 → Writable a x
writable dims text spans {a} e x m =
    let p = array_passed dims text spans e in
    let n = length spans / 2 in
    let l = length_strings text spans 0 n in
    subst (λ (b : Array). Writable b x) (sym p.is)
    (record {
      shape = rw l p.shape;
      well_formed =
          λ i h.
          let z : 0 + i ≡ i = omega arith in
          rw (strings_at text spans n 0 i (omega arith), z) (strings_well_formed dims text spans e i (omega arith));
      most = subst (λ (b : Array). length (payload b ++ x) ≤ 2097152) p.is m;
    })

-- THE LAW of payloads
pub round_trip : (dims text spans : List ℕ) {a : Array} → array_of dims text spans ≡ ok a → (x : List ℕ) → length (payload a ++ x) ≤ 2097152
    → decode_payload (payload a ++ x) ≡ ok a.strings
round_trip dims text spans {a} e x m = round_trip_of a x (writable dims text spans e x m)
