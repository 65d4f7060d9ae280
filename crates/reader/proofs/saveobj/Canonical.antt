-- A payload in canonical form (01's written form): what it is by tests that one pass makes, with the loop of `is_canonical_payload`; it is what
-- writing gives for its array, and writing accepts that array.
-- Assumes nothing.
use Rattle.std.specs.Option.{unwrap_or}
use mathlib.Core.Path.{◌≡◌, refl, ◌∙◌, sym, ap, ap₂}
use mathlib.Core.Bool.{Bool, true, false}
use mathlib.Core.List.{List, [], ◌∷◌, ◌++◌, flat_map}
use Rattle.std.specs.Cmp.{both_ways}
use Rattle.std.specs.List.{list_any}
use Rattle.std.proofs.lemmas.List.Folds.{list_any_at}
use Rattle.std.specs.Prelude.{Option, Some, Ok, Err, Result as Reply}
use Rattle.std.specs.Result as reply
use Prim.Native.Nat.{ℕ, zero, suc, ◌+◌, ◌-◌, ◌*◌, ◌/◌, ◌%◌, ◌^◌, ◌≤◌, ◌<◌}
use native.Mathlib.Nat.{zero-add}
use native.Mathlib.Omega.{arith}
use borrow.Author.Tests.{eq-eqb, eqb-true, ne_eqb}
use lib.Dec.{eqb}
use lib.ListN.{length, get_or, take, drop, length-drop, length-map, take-append-drop, get_or-append}
use lib.Seq.{drop-cons, drop-drop, drop_at, get_or-drop, get_or-take, ext_get_or, length-take-le}
use Rattle.text.specs.Buffer.{same}
use Rattle.text.specs.Result.{Result, ok, error, is_ok, values_of, map_result}
use Rattle.text.specs.Utf8.{units_of}
use Rattle.text.specs.Utf16.{the_text}
use Rattle.text.specs.Replies.{outcome}
use Rattle.text.specs.declared.error.Failure.{Failure}
use Rattle.text.specs.declared.error.MatError.{MatError}
use Rattle.text.proofs.ReplyLaws.{told_error}
use Rattle.text.proofs.SameLaws.{same_refl, same_is}
use Rattle.text.proofs.TestLaws.{and_is, not_both}
use Rattle.text.proofs.Utf16Laws.{text_units}
use Rattle.writer.specs.Array.{Array, Accepted, string_units, unit_counts, all_units, payload, array_of}
use Rattle.writer.specs.Spans.{is_some, joined, spans_from}
use Rattle.writer.specs.Words.{packed}
use Rattle.writer.proofs.ArrayLaws.{payload_is, cut_again, array_accepted}
use Rattle.writer.proofs.ShapeLaws.{shape_is}
use Rattle.writer.proofs.WordLaws.{length_packed, padded}
use Rattle.reader.specs.Saveobj.{dim_count, unit_count, units_before, stored_units, stored_strings, check_pairing, decode_payload, decoded_array, is_canonical_payload}
use Rattle.reader.specs.Stages.Saveobj.{Layout, check_layout}
use Rattle.reader.specs.Replies.{size_of}
use Rattle.reader.specs.Units.{units_in}
use Rattle.reader.specs.Stages.Units.{is_packed}
use Rattle.reader.specs.declared.saveobj.DecodedSize.{DecodedSize}
use Rattle.reader.proofs.saveobj.HeaderLaws.{HeaderPassed, header_passed}
use Rattle.reader.proofs.saveobj.Lengths.{count_missing, count_given, units_most}
use Rattle.reader.proofs.units.Packed.{units_drop, units_append, repacked}
use Rattle.reader.proofs.saveobj.Payload.{PayloadPassed, strings_passed, payload_passed, LayoutPassed, layout_passed, layout_refused, counts_are}
use Rattle.reader.proofs.RoundTrip.{counts_at}
use Rattle.reader.proofs.saveobj.Strings.{length_stored}
use Rattle.reader.proofs.units.Laws.{length_units, units_below}

-- ---- a payload that decodes

stored_from : (p : List ℕ) (base n k i j : ℕ) → j < k → get_or (stored_strings p base n i k) j [] ≡ the_text (stored_units p base n (i + j))
unfolding stored_strings
stored_from p base n zero i j h = absurd (omega arith)
stored_from p base n (suc k) i zero h =
    let z : i + 0 ≡ i = omega arith in
    rw z
stored_from p base n (suc k) i (suc j) h =
    let z : i + suc j ≡ suc i + j = omega arith in
    rw z (stored_from p base n k (suc i) j (omega arith))

stored_at : (p : List ℕ) (base n i : ℕ) → i < n → get_or (stored_strings p base n 0 n) i [] ≡ the_text (stored_units p base n i)
stored_at p base n i h = rw zero-add at (stored_from p base n n 0 i h)

-- into n strings, whose lengths begin at word base
pub record Decoded (p : List ℕ) (base n : ℕ) : Type 0 where
  pub header : HeaderPassed p base n
  pub strings : PayloadPassed p base n (values_of (decode_payload p))
  pub passed : is_ok (decode_payload p) ≡ true

is_values : {A : Type 0} (m : Result (List A)) → is_ok m ≡ true → m ≡ ok (values_of m)
is_values (ok a) e = refl
is_values (error f) e = not_both e refl

decodes : (p : List ℕ) → is_ok (decode_payload p) ≡ true → Decoded p (2 + dim_count p) (length (values_of (decode_payload p)))
decodes p e =
    let q = payload_passed p (is_values (decode_payload p) e) in
    let h = header_passed p q.1.0 in
    let s = q.1.1 in
    rw (sym h.start, s.many) (record { header = h; strings = s; passed = e })

-- what one pass tests: no length marks a missing string, no words are spare, and the places after the last unit are 0
pub record IsCanonical (p : List ℕ) (base n : ℕ) : Type 0 where
  pub decoded : Decoded p base n
  pub given : (i : ℕ) → i < n → get_or p (base + i) 0 ≡ 2 ^ 64 - 1 → ⊥
  pub size : length p ≡ base + n + (units_before p base n + 3) / 4
  pub padding : get_or p (base + n + units_before p base n / 4) 0 / 2 ^ (16 * (units_before p base n % 4)) ≡ 0

module _ (p : List ℕ) (base n : ℕ) (d : Decoded p base n) where
  abbrev dims : List ℕ
  dims = (decoded_array p).dims

  abbrev ss : List (List ℕ)
  ss = stored_strings p base n 0 n

  abbrev sum : ℕ
  sum = units_before p base n

  length_dims : length dims ≡ dim_count p
  length_dims = length-take-le (dim_count p) (drop 2 p) (omega (arith, length-drop 2 p, d.header.inside, d.header.start))

  -- the words before the lengths are those that writing gives
  whole : p ≡ 1 ∷ length dims ∷ (dims ++ drop base p)
  whole =
      let l = d.header.inside in
      let s = d.header.start in
      let t : drop (dim_count p) (drop 2 p) ≡ drop base p = rw s (drop-drop (dim_count p) 2 p) in
      drop-cons p 0 0 (omega arith)
      ∙ ap₂ (λ (x : ℕ) (r : List ℕ). x ∷ r) d.header.version (drop-cons p 1 0 (omega arith))
      ∙ ap₂ (λ (y : ℕ) (r : List ℕ). 1 ∷ y ∷ r) (sym length_dims) (sym (take-append-drop (dim_count p) (drop 2 p)) ∙ ap (λ (r : List ℕ). dims ++ r) t)

  -- the units of a string that was read are the units that were read
  string_well_formed : (i : ℕ) → i < n → units_of (the_text (stored_units p base n i)) ≡ Some (stored_units p base n i)
  string_well_formed i h =
      text_units (stored_units p base n i) (the_text (stored_units p base n i)) (units_below p (base + n) (units_before p base i) (unit_count p base i)) (d.strings.paired i h)

  string_units_lem : (i : ℕ) → i < n → string_units (the_text (stored_units p base n i)) ≡ stored_units p base n i
  string_units_lem i h = ap (λ (m : Option (List ℕ)). unwrap_or m []) (string_well_formed i h)

  count_of_lem : (i : ℕ) → i < n → get_or (unit_counts ss) i 0 ≡ unit_count p base i
  count_of_lem i h =
      counts_at ss i (omega (arith, length_stored p base n 0 n))
      ∙ ap (λ (s : List ℕ). length (string_units s)) (stored_at p base n i h)
      ∙ ap length (string_units_lem i h)
      ∙ length_units p (base + n) (units_before p base i) (unit_count p base i)

  -- the units of k strings, end to end, are the c units from the first one's on
  all_units_lem : (k i c : ℕ) → i + k ≤ n → units_before p base i + c ≡ units_before p base (i + k)
      → all_units (stored_strings p base n i k) ≡ units_in p (base + n) (units_before p base i) c
  unfolding stored_strings flat_map units_in units_before
  all_units_lem zero i c h e =
      let z : i + 0 ≡ i = omega arith in
      let y : c ≡ zero = omega (arith, rw z at e) in
      rw y
  all_units_lem (suc k) i c h e =
      let s : i + suc k ≡ suc i + k = omega arith in
      let u : ℕ = unit_count p base i in
      let m = units_most p base (suc i) (suc i + k) (omega arith) in
      let g = rw s at e in
      let y : c ≡ u + (c - u) = omega arith in
      rw y
      (ap₂ (λ (a r : List ℕ). a ++ r) (string_units_lem i (omega arith)) (all_units_lem k (suc i) (c - u) (omega arith) (omega arith))
      ∙ sym (units_append p (base + n) (units_before p base i) u (c - u)))

  abbrev units : List ℕ
  units = units_in p (base + n) 0 sum

  units_are : all_units ss ≡ units
  unfolding units_before
  units_are =
      let z : 0 + n ≡ n = omega arith in
      all_units_lem n 0 sum (omega arith) (rw z (omega arith))

  length_counts : length (unit_counts ss) ≡ n
  length_counts = length-map ss (λ (s : List ℕ). length (string_units s)) ∙ length_stored p base n 0 n

  array_is : payload (decoded_array p) ≡ 1 ∷ length dims ∷ (dims ++ (unit_counts ss ++ packed units))
  array_is =
      payload_is (decoded_array p)
      ∙ ap (λ (rs : List (List ℕ)). 1 ∷ length dims ∷ (dims ++ (unit_counts rs ++ packed (all_units rs)))) d.strings.is
      ∙ ap (λ (us : List ℕ). 1 ∷ length dims ∷ (dims ++ (unit_counts ss ++ packed us))) units_are

  -- ---- from the written form

  module _ (e : payload (decoded_array p) ≡ p) where
    after_dims : drop base p ≡ unit_counts ss ++ packed units
    after_dims =
        let l : length (1 ∷ length dims ∷ dims) ≡ base = omega (arith, length_dims, d.header.start) in
        ap (drop base) (sym e ∙ array_is) ∙ drop_at (1 ∷ length dims ∷ dims) (unit_counts ss ++ packed units) base l

    after_lengths : drop (base + n) p ≡ packed units
    after_lengths = sym (drop-drop n base p) ∙ ap (drop n) after_dims ∙ drop_at (unit_counts ss) (packed units) n length_counts

    parts_of : IsCanonical p base n
    parts_of =
        let l = length_units p (base + n) 0 sum in
        record {
          decoded = d;
          given =
              λ i h m.
              let c : get_or p (base + i) 0 ≡ unit_count p base i =
              sym (get_or-drop base p i 0)
              ∙ ap (λ (r : List ℕ). get_or r i 0) after_dims
              ∙ get_or-append (unit_counts ss) (packed units) 0 i (omega (arith, length_counts))
              ∙ count_of_lem i h in
              omega (arith, count_missing p base i m);
          size = omega (arith, ap length after_lengths, length-drop (base + n) p, length_packed units, d.header.inside);
          padding =
              let g : get_or p (base + n + sum / 4) 0 ≡ get_or (packed units) (sum / 4) 0 =
              sym (get_or-drop (base + n) p (sum / 4) 0) ∙ ap (λ (r : List ℕ). get_or r (sum / 4) 0) after_lengths in
              rw g (rw l at (padded units (units_below p (base + n) 0 sum)));
        }

  -- ---- to the written form

  module _ (b : (i : ℕ) → get_or p i 0 < 2 ^ 64) (c : IsCanonical p base n) where
    lengths_are : unit_counts ss ≡ take n (drop base p)
    lengths_are =
        ext_get_or 0 (unit_counts ss) (take n (drop base p))
        (length_counts ∙ sym (length-take-le n (drop base p) (omega (arith, length-drop base p, d.header.inside))))
        (λ i l.
        let h : i < n = omega (arith, length_counts) in
        count_of_lem i h
        ∙ sym (count_given p base i (c.given i h) refl)
        ∙ sym (get_or-take n (drop base p) i 0 h ∙ get_or-drop base p i 0))

    words_are : packed units ≡ drop (base + n) p
    words_are =
        ap packed (units_drop p (base + n) 0 sum)
        ∙ repacked (drop (base + n) p) sum (λ i. rw (get_or-drop (base + n) p i 0) (b (base + n + i)))
        (omega (arith, length-drop (base + n) p, c.size)) (rw (get_or-drop (base + n) p (sum / 4) 0) c.padding)

    written_of : payload (decoded_array p) ≡ p
    written_of =
        array_is
        ∙ ap (λ (r : List ℕ). 1 ∷ length dims ∷ (dims ++ r))
        (ap₂ (λ (x y : List ℕ). x ++ y) lengths_are (words_are ∙ sym (drop-drop n base p)) ∙ take-append-drop n (drop base p))
        ∙ sym whole

  -- ---- what writing asks of the array

  well_formed : (i : ℕ) → i < length ss → is_some (units_of (get_or ss i [])) ≡ true
  well_formed i l =
      let h : i < n = omega (arith, length_stored p base n 0 n) in
      ap is_some (ap units_of (stored_at p base n i h) ∙ string_well_formed i h)

  array_of_lem : length (payload (decoded_array p)) ≤ 2097152 → array_of dims (joined ss) (spans_from 0 ss) ≡ ok (decoded_array p)
  array_of_lem l =
      let a : Array = record { dims = dims; strings = ss } in
      let e : a ≡ decoded_array p = ap (λ (rs : List (List ℕ)). record { dims = dims; strings = rs }) (sym d.strings.is) in
      array_accepted dims (joined ss) (spans_from 0 ss) (cut_again ss well_formed)
      (rw (length_stored p base n 0 n) (shape_is dims n d.header.product)) (rw e l)
      ∙ ap ok e

  accepted_of : payload (decoded_array p) ≡ p → Accepted (decoded_array p)
  accepted_of e = record { dims = dims; text = joined ss; spans = spans_from 0 ss; is = array_of_lem (rw e d.header.most) }

-- ---- the laws of canonical form

module _ (p : List ℕ) (e : is_canonical_payload p ≡ true) where
  both : (is_ok (decode_payload p) ≡ true) × (payload (decoded_array p) ≡ p)
  unfolding is_canonical_payload
  both =
      let q = and_is (is_ok (decode_payload p)) (same (payload (decoded_array p)) p) e in
      (q.0, same_is (payload (decoded_array p)) p q.1)

  pub canonical_is : payload (decoded_array p) ≡ p
  canonical_is = both.1

  pub canonical_parts : IsCanonical p (2 + dim_count p) (length (values_of (decode_payload p)))
  canonical_parts = parts_of p _ _ (decodes p both.0) canonical_is

  pub canonical_accepted : Accepted (decoded_array p)
  canonical_accepted = accepted_of p _ _ (decodes p both.0) canonical_is

pub canonical_from : {p : List ℕ} {base n : ℕ} → ((i : ℕ) → get_or p i 0 < 2 ^ 64) → IsCanonical p base n → is_canonical_payload p ≡ true
unfolding is_canonical_payload
canonical_from {p} {base} {n} b c =
    rw (c.decoded.passed, written_of p base n c.decoded b c) (same_refl p)

-- ---- the outcomes of `is_canonical_payload`

-- a length that marks a missing string
abbrev is_mark : ℕ → Bool
is_mark y = eqb y (2 ^ 64 - 1)

no_mark : (xs : List ℕ) → ((i : ℕ) → i < length xs → get_or xs i 0 ≡ 2 ^ 64 - 1 → ⊥) → list_any is_mark xs ≡ false
no_mark [] f = refl
no_mark (x ∷ xs) f = rw (ne_eqb x (2 ^ 64 - 1) (f 0 (omega arith))) (no_mark xs (λ i h. f (suc i) (omega arith)))

module _ (p : List ℕ) where
  -- a payload in canonical form has strings
  module _ {base n units : ℕ} (l : LayoutPassed p base n units) where
    decoded_by : is_ok (decode_payload p) ≡ true → Decoded p base n
    decoded_by e = record {
      header = l.header;
      strings = strings_passed p base n l.header l.checked (sym l.strings ∙ is_values (decode_payload p) e);
      passed = e;
    }

    parts : is_canonical_payload p ≡ true → IsCanonical p base n
    parts e = parts_of p base n (decoded_by (both p e).0) (canonical_is p e)

    never : (is_canonical_payload p ≡ true → ⊥) → false ≡ is_canonical_payload p
    never f = both_ways false (is_canonical_payload p) (λ t. not_both t refl) (λ t. absurd (f t))

  refused : {f : Failure} → decode_payload p ≡ error f → false ≡ is_canonical_payload p
  unfolding is_canonical_payload
  refused e = rw e

  pub canonical_refused : {f : Failure} → error f ≡ check_layout p → false ≡ is_canonical_payload p
  canonical_refused e = refused (layout_refused p (sym e))

  module _ {a : Layout} (e : ok a ≡ check_layout p) where
    laid_out : LayoutPassed p a.base a.strings a.units
    laid_out = layout_passed p (sym e)

    pub packed_inside : (a.base + a.strings ≤ length p) × (a.units ≤ 4 * (length p - (a.base + a.strings)))
    packed_inside = let l = laid_out in (l.header.inside, omega (arith, l.sum, l.checked.units))

    module _ {r : Bool} (q : r ≡ is_packed p (a.base + a.strings) a.units) where
      pub canonical_spare : r ≡ false → false ≡ is_canonical_payload p
      unfolding is_packed
      canonical_spare t =
          let l = laid_out in
          never l (λ c. let i = parts l c in not_both (rw (eq-eqb _ _ i.size, eq-eqb _ _ i.padding)) (sym (rw l.sum at q) ∙ t))

      module _ {k : Bool} (g : k ≡ list_any is_mark (take (a.base + a.strings - a.base) (drop a.base p))) where
        abbrev lengths : List ℕ
        lengths = take (a.base + a.strings - a.base) (drop a.base p)

        many : length lengths ≡ a.strings
        many =
            let l = laid_out.header.inside in
            let e = length-take-le (a.base + a.strings - a.base) (drop a.base p) (omega (arith, length-drop a.base p)) in
            omega arith

        length_is : (i : ℕ) → i < a.strings → get_or lengths i 0 ≡ get_or p (a.base + i) 0
        length_is i h = get_or-take (a.base + a.strings - a.base) (drop a.base p) i 0 (omega arith) ∙ get_or-drop a.base p i 0

        pub canonical_missing : k ≡ true → false ≡ is_canonical_payload p
        canonical_missing t =
            never laid_out
            (λ c. not_both (sym g ∙ t) (no_mark lengths (λ i h e. (parts laid_out c).given i (omega (arith, many)) (sym (length_is i (omega (arith, many))) ∙ e))))

        module _ (t : r ≡ true) (f : k ≡ false) (b : (k : ℕ) → get_or p k 0 < 2 ^ 64) where
          all_tested : {size : DecodedSize} → ok size ≡ map_result size_of (check_pairing p a.base a.strings) → true ≡ is_canonical_payload p
          unfolding is_packed
          all_tested e =
              let l = laid_out in
              let q = and_is _ _ (sym (rw l.sum at q) ∙ t) in
              sym
              (canonical_from b
              (record {
                decoded = decoded_by l (ap is_ok (l.strings ∙ (counts_are (check_pairing p a.base a.strings) e).0));
                given = λ i h e. not_both (list_any_at is_mark lengths i 0 (omega (arith, many)) (eq-eqb _ _ (length_is i h ∙ e))) (sym g ∙ f);
                size = eqb-true _ _ q.0;
                padding = eqb-true _ _ q.1;
              }))

          -- 29 decides
          pub canonical_last : (r : Reply DecodedSize MatError) → outcome r ≡ map_result size_of (check_pairing p a.base a.strings) → reply.is_ok r ≡ is_canonical_payload p
          canonical_last (Ok size) e = all_tested e
          canonical_last (Err x) e = refused (laid_out.strings ∙ told_error size_of (check_pairing p a.base a.strings) e)
