-- The outcomes of `measure_saveobj`, `put_payload` and `decode_string_saveobj`, and what a payload that passed its checks is.
-- Assumes nothing.
use Prim.Native.Nat.{ℕ, zero, suc, ◌+◌, ◌-◌, ◌*◌, ◌^◌, ◌≤◌, ◌<◌, min}
use mathlib.Core.Path.{◌≡◌, refl, sym, ap, ap₂, subst, ◌∙◌}
use mathlib.Core.Bool.{true, false}
use mathlib.Core.List.{List}
use Rattle.std.specs.Prelude.{Some}
use native.Mathlib.Nat.{zero-add}
use native.Mathlib.Numerals.{add-one}
use native.Mathlib.Omega.{arith}
use borrow.Author.Tests.{le-leb, lt-leb, leb-true}
use lib.Dec.{leb}
use lib.ListN.{length}
use Rattle.std.specs.Prelude.{IsErr, Ok, Err, Result as Reply}
use Rattle.std.specs.Result.{IsErrAnd}
use Rattle.text.specs.Errors.{failure_of}
use Rattle.text.specs.Replies.{outcome}
use Rattle.text.specs.Result.{Result, ok, error, map_result, check_each, need_place, overwritten, values_of, ◌>>◌, ◌>>=◌}
use Rattle.text.specs.Utf16.{text_of, the_text}
use Rattle.text.specs.declared.error.Failure.{Failure}
use Rattle.text.specs.declared.error.MatError.{MatError}
use Rattle.text.proofs.BufferLaws.{put_front}
use Rattle.text.proofs.ReplyLaws.{handed_on}
use Rattle.text.proofs.ResultLaws.{same_value, check_passed, seq_passed, seq_bind, bind_passed, check_each_passed, check_is, Checks, checks_start, checks_turn, checks_stop}
use Rattle.text.proofs.TestLaws.{clash}
use Rattle.writer.specs.Spans.{joined, spans_from}
use Rattle.reader.specs.Saveobj.{units_before, stored_units, stored_strings, Header, check_header, check_sum, check_unit_count, check_pairing, decode_payload, check_outputs, into_strings}
use Rattle.reader.specs.Stages.Saveobj.{Layout, check_layout, checked_units, UnitsChecked, StringsFit, origin, FitsAt, WritesAt}
use Rattle.reader.specs.Replies.{size_of, DecodesStrings}
use Rattle.reader.specs.declared.saveobj.DecodedSize.{DecodedSize}
use Rattle.reader.specs.declared.saveobj.Position.{Position}
use Rattle.reader.proofs.saveobj.HeaderLaws.{HeaderPassed, header_passed}
use Rattle.reader.proofs.saveobj.Lengths.{sum_fits}
use Rattle.writer.proofs.SpanLaws.{some_is}
use Rattle.reader.proofs.saveobj.Strings.{is_paired, length_stored, stored_most}

-- the position by default
pub at_origin : {p : Position} → (p.byte ≡ 0) × (p.string ≡ 0) → p ≡ origin
at_origin e = ap₂ (λ (b s : ℕ). record { byte = b; string = s }) e.0 e.1

-- ---- checks that passed

-- a payload of n strings whose lengths begin at word base
pub record PayloadPassed (payload : List ℕ) (base n : ℕ) (strings : List (List ℕ)) : Type 0 where
  pub checked : UnitsChecked payload base n
  pub paired : (i : ℕ) → i < n → text_of (stored_units payload base n i) ≡ Some (the_text (stored_units payload base n i))
  pub is : strings ≡ stored_strings payload base n 0 n
  pub many : length strings ≡ n

sum_passed : (payload : List ℕ) (base n : ℕ) {sum : ℕ} → check_sum payload base n ≡ ok sum → sum ≡ units_before payload base n
unfolding check_sum
sum_passed payload base n e =
    let p = seq_passed (check_each 27 (sum_fits payload base) 0 n) _ e in
    let k = p.1.1 in
    cc

module _ (payload : List ℕ) (base n : ℕ) (h : HeaderPassed payload base n) where
  checked_by : {sum : ℕ} → check_sum payload base n ≡ ok sum → sum ≤ 4 * (length payload - (base + n)) → UnitsChecked payload base n
  checked_by e l = record { lengths = h.inside; units = omega (arith, sum_passed payload base n e); most = h.most }

  pub strings_passed : UnitsChecked payload base n → {strings : List (List ℕ)} → check_pairing payload base n ≡ ok strings → PayloadPassed payload base n strings
  unfolding check_pairing
  strings_passed u {strings} e =
      let p = seq_passed (check_each 29 (is_paired payload base n) 0 n) _ e in
      let k = p.1.1 in
      let s : strings ≡ stored_strings payload base n 0 n = cc in
      record {
        checked = u;
        paired = λ i l. some_is (text_of (stored_units payload base n i)) (check_each_passed 29 (is_paired payload base n) 0 n p.1.0 i (omega arith) l);
        is = s;
        many = ap length s ∙ length_stored payload base n 0 n;
      }

  units_passed : {u : Unit {0}} → check_unit_count payload base n ≡ ok u → UnitsChecked payload base n
  unfolding check_unit_count
  units_passed e =
      let p = bind_passed (check_sum payload base n) _ e in
      checked_by p.1.0 (leb-true p.0 (4 * (length payload - (base + n))) (check_is 28 (leb p.0 (4 * (length payload - (base + n)))) p.0 p.1.1))

-- a payload that has strings
pub payload_passed : (payload : List ℕ) {strings : List (List ℕ)} → decode_payload payload ≡ ok strings
    → (h : Header) × ((check_header payload ≡ ok h) × PayloadPassed payload h.base h.strings strings)
unfolding decode_payload
payload_passed payload e =
    let p = bind_passed (check_header payload) _ e in
    let h = p.0 in
    let q = seq_passed (check_unit_count payload h.base h.strings) _ p.1.1 in
    let f = header_passed payload p.1.0 in
    (h, (p.1.0, strings_passed payload h.base h.strings f (units_passed payload h.base h.strings f q.1.0) q.1.1))

-- its strings are at most its words, and their bytes at most three for each of four units a word
pub payload_most : (payload : List ℕ) {strings : List (List ℕ)} → decode_payload payload ≡ ok strings
    → (length (joined strings) ≤ 12 * 2097152) × (length strings ≤ 2097152)
unfolding units_before
payload_most payload {strings} e =
    let q = payload_passed payload e in
    let h = q.0 in
    let p = q.1.1 in (
      omega (arith, ap (λ (ss : List (List ℕ)). length (joined ss)) p.is, rw zero-add at (stored_most payload h.base h.strings p.paired 0 h.strings (omega arith)), p.checked.units, p.checked.most),
      omega (arith, p.many, p.checked.lengths, p.checked.most),
    )

-- ---- 22 to 26, then 27 and 28

pub units_counted : (payload : List ℕ) (base n : ℕ) {sum : ℕ} → ok sum ≡ check_sum payload base n → sum ≤ 4 * (length payload - (base + n))
    → ok sum ≡ checked_units payload base n
unfolding checked_units check_unit_count
units_counted payload base n {sum} s l = simp (sym s, le-leb sum (4 * (length payload - (base + n))) l) (rw (sum_passed payload base n (sym s)))

module _ (payload : List ℕ) where
  pub header_refused : {f : Failure} → error f ≡ check_header payload → error f ≡ check_layout payload
  unfolding check_layout
  header_refused e = rw (sym e)

  pub laid_out : {h : Header} → ok h ≡ check_header payload → {m : Result ℕ} → m ≡ checked_units payload h.base h.strings
      → (m >>= λ units. ok (record { base = h.base; strings = h.strings; units = units })) ≡ check_layout payload
  unfolding check_layout checked_units
  laid_out {h} e d =
      rw (d, sym e)
      (sym (seq_bind (check_unit_count payload h.base h.strings) (ok (units_before payload h.base h.strings)) (λ units. ok (record { base = h.base; strings = h.strings; units = units }))))

-- ---- 22 to 28, then 29

then : {A B C : Type 0} (m : Result A) (g : A → Result (Unit {0})) (l : A → B) (f : B → Result C)
    → (m >>= λ a. g a >> f (l a)) ≡ ((m >>= λ a. g a >> ok (l a)) >>= f)
then (ok a) g l f = checked_then (g a)
  where
    checked_then : (n : Result (Unit {0})) → (n >> f (l a)) ≡ ((n >> ok (l a)) >>= f)
    checked_then (ok u) = refl
    checked_then (error x) = refl
then (error x) g l f = refl

pub decode_layout : (payload : List ℕ) → decode_payload payload ≡ (check_layout payload >>= λ l. check_pairing payload l.base l.strings)
unfolding check_layout decode_payload
decode_layout payload =
    then (check_header payload) (λ h. check_unit_count payload h.base h.strings)
    (λ h. record { base = h.base; strings = h.strings; units = units_before payload h.base h.strings }) (λ l. check_pairing payload l.base l.strings)

-- a refusal by 22 to 28 is told, whatever the units are
pub layout_refused : (payload : List ℕ) {f : Failure} → check_layout payload ≡ error f → decode_payload payload ≡ error f
layout_refused payload e = rw (decode_layout payload, e)

-- the strings are what 29 makes of the rest
pub record LayoutPassed (payload : List ℕ) (base n units : ℕ) : Type 0 where
  pub header : HeaderPassed payload base n
  pub checked : UnitsChecked payload base n
  pub sum : units ≡ units_before payload base n
  pub strings : decode_payload payload ≡ check_pairing payload base n

pub layout_passed : (payload : List ℕ) {l : Layout} → check_layout payload ≡ ok l → LayoutPassed payload l.base l.strings l.units
unfolding check_layout
layout_passed payload {l} e =
    let p = bind_passed (check_header payload) _ e in
    let h = p.0 in
    let q = seq_passed (check_unit_count payload h.base h.strings) _ p.1.1 in
    let f = header_passed payload p.1.0 in
    let z = q.1.1 in
    let w : ◌≡◌ {A = Layout} (record { base = h.base; strings = h.strings; units = units_before payload h.base h.strings }) l = cc in
    record {
      header = subst (λ (l : Layout). HeaderPassed payload l.base l.strings) w f;
      checked = subst (λ (l : Layout). UnitsChecked payload l.base l.strings) w (units_passed payload h.base h.strings f q.1.0);
      sum = subst (λ (l : Layout). l.units ≡ units_before payload l.base l.strings) w refl;
      strings = rw (decode_layout payload, e);
    }

-- ---- document 02, P4

-- "A payload that fails 28 must still be told 28, though a lone surrogate stands before the shortage": the units are not asked about
pub shortage_first : (payload : List ℕ) {h : Header} {sum : ℕ} → check_header payload ≡ ok h → check_sum payload h.base h.strings ≡ ok sum
    → 4 * (length payload - (h.base + h.strings)) < sum → decode_payload payload ≡ error (record { number = 28; place = sum })
unfolding check_layout check_unit_count
shortage_first payload {h} {sum} e s l =
    layout_refused payload (rw e (simp (s, lt-leb sum (4 * (length payload - (h.base + h.strings))) l)))

-- "the first string with an unpaired surrogate", in a payload that passes 28
pub unpaired_first : {payload : List ℕ} {base n units : ℕ} → LayoutPassed payload base n units → (i : ℕ) → i < n
    → ((j : ℕ) → j < i → is_paired payload base n j ≡ true) → is_paired payload base n i ≡ false → decode_payload payload ≡ error (record { number = 29; place = i })
unfolding check_pairing
unpaired_first {payload} {base} {n} p i h f g =
    rw (p.strings, checks_stop 29 (is_paired payload base n) 0 n (upto i (omega arith) f) h g)
  where
    upto : (k : ℕ) → k ≤ n → ((j : ℕ) → j < k → is_paired payload base n j ≡ true) → Checks 29 (is_paired payload base n) 0 n k
    upto zero l f = checks_start 29 (is_paired payload base n) 0 n (omega arith)
    upto (suc k) l f = rw add-one at (checks_turn 29 (is_paired payload base n) 0 n (upto k (omega arith) (λ j m. f j (omega arith))) (omega arith) (f k (omega arith)))

-- ---- the outcomes of `measure_saveobj`

module _ (payload : List ℕ) where
  pub measure_refused : {f : Failure} → error f ≡ check_layout payload → error f ≡ map_result size_of (decode_payload payload)
  measure_refused e = ap (map_result size_of) (sym (layout_refused payload (sym e)))

  module _ {l : Layout} (e : ok l ≡ check_layout payload) where
    pub measure_checked : UnitsChecked payload l.base l.strings
    measure_checked = (layout_passed payload (sym e)).checked

    pub measure_strings : {m : Result DecodedSize} → m ≡ map_result size_of (check_pairing payload l.base l.strings) → m ≡ map_result size_of (decode_payload payload)
    measure_strings m = m ∙ ap (map_result size_of) (sym (layout_passed payload (sym e)).strings)

-- ---- the outcomes of `put_payload`

abbrev strings_in : List ℕ → List (List ℕ)
strings_in payload = values_of (decode_payload payload)

module _ (payload t s : List ℕ) (at : Position) (f : FitsAt (decode_payload payload) (length t) (length s) at) where
  module _ {h : Header} (e : ok h ≡ check_header payload) where
    is_passed : PayloadPassed payload h.base h.strings (strings_in payload)
    is_passed =
        let p = payload_passed payload f.passed in
        subst (λ (g : Header). PayloadPassed payload g.base g.strings (strings_in payload)) (same_value (sym p.1.0 ∙ sym e)) p.1.1

    pub put_fits : StringsFit payload h.base h.strings at.byte (length t) at.string (length s)
    put_fits =
        let p = is_passed in
        record {
          checked = p.checked;
          paired = p.paired;
          text = omega (arith, f.text, ap (λ (ss : List (List ℕ)). length (joined ss)) p.is);
          spans = omega (arith, f.spans, p.many);
        }

    pub put_writes : {next : Position} {t' s' : List ℕ} → WritesAt (ok (stored_strings payload h.base h.strings 0 h.strings)) at t s next t' s'
        → WritesAt (decode_payload payload) at t s next t' s'
    put_writes {next} {t'} {s'} w =
        let p = is_passed in
        let e : ◌≡◌ {A = Result (List (List ℕ))} (ok (stored_strings payload h.base h.strings 0 h.strings)) (decode_payload payload) = ap ok (sym p.is) ∙ sym f.passed in
        subst (λ (m : Result (List (List ℕ))). WritesAt m at t s next t' s') e w

  -- a payload that has strings has a header
  pub put_never : {r : Failure} → error r ≡ check_header payload → WritesAt (decode_payload payload) at t s at t s
  put_never {r} e =
      let p = payload_passed payload f.passed in
      let q = sym p.1.0 ∙ sym e in
      clash cc

-- ---- the outcomes of `decode_string_saveobj`

pub counts_are : (m : Result (List (List ℕ))) {size : DecodedSize} → ok size ≡ map_result size_of m
    → (m ≡ ok (values_of m)) × (length (joined (values_of m)) ≡ size.bytes) × (length (values_of m) ≡ size.strings)
counts_are (ok ss) e =
    let k = same_value (sym e) in
    (refl, ap (λ (c : DecodedSize). c.bytes) k, ap (λ (c : DecodedSize). c.strings) k)
counts_are (error f) e = clash cc

-- ---- 34 for the text and the spans of strings

module _ (b n text_room span_room : ℕ) where
  module _ (fits : b ≤ text_room) where
    pub outputs_spans : 2 * n < 2 ^ 64 → span_room < 2 * n → error (record { number = 34; place = 2 * n }) ≡ check_outputs b n text_room span_room
    outputs_spans f h = let p : min (2 * n) (2 ^ 64 - 1) ≡ 2 * n = omega arith in simp (le-leb b text_room fits, lt-leb (2 * n) span_room h, p)

    pub outputs_fit : 2 * n ≤ span_room → ok tt ≡ check_outputs b n text_room span_room
    outputs_fit h = simp (le-leb b text_room fits, le-leb (2 * n) span_room h)

  outputs_passed : check_outputs b n text_room span_room ≡ ok tt → (b ≤ text_room) × (2 * n ≤ span_room)
  outputs_passed e =
      let t = check_passed 34 (leb b text_room) (need_place b) _ e in
      let s = check_is 34 (leb (2 * n) span_room) (need_place (2 * n)) t.1 in
      (leb-true b text_room t.0, leb-true (2 * n) span_room s)

-- ---- what a call comes to that writes the strings of a result

module _ (m : Result (List (List ℕ))) (text spans : List ℕ) where
  comes : (n : Result (List (List ℕ))) {r : Reply DecodedSize MatError} {text' spans' : List ℕ} → into_strings m (length text) (length spans) ≡ n
      → outcome r ≡ map_result size_of n → text' ≡ overwritten joined n text → spans' ≡ overwritten (spans_from 0) n spans
      → DecodesStrings m text spans r text' spans'
  comes n e p q s = record {
    reply = p ∙ ap (map_result size_of) (sym e);
    text_after = q ∙ ap (λ (n : Result (List (List ℕ))). overwritten joined n text) (sym e);
    spans_after = s ∙ ap (λ (n : Result (List (List ℕ))). overwritten (spans_from 0) n spans) (sym e);
  }

  -- a refusal
  pub refuses : {e : MatError} → m ≡ error (failure_of e) → DecodesStrings m text spans (Err e) text spans
  refuses {e} h = comes (error (failure_of e)) (rw h) refl refl refl

  -- one that `?` hands on
  pub hands_on : (r : Reply DecodedSize MatError) (e : MatError) → IsErr r × IsErrAnd r (λ y. y ≡ e) → m ≡ error (failure_of e) → DecodesStrings m text spans r text spans
  hands_on r e p h = comes (error (failure_of e)) (rw h) (handed_on r e p) refl refl

  module _ {size : DecodedSize} (e : ok size ≡ map_result size_of m) where
    counts : (m ≡ ok (values_of m)) × (length (joined (values_of m)) ≡ size.bytes) × (length (values_of m) ≡ size.strings)
    counts = counts_are m e

    fitted : {c : Result (Unit {0})} → c ≡ check_outputs size.bytes size.strings (length text) (length spans) → into_strings m (length text) (length spans) ≡ (c >> ok (values_of m))
    fitted h =
        ap (λ (k : Result (List (List ℕ))). into_strings k (length text) (length spans)) counts.0
        ∙ rw (counts.1, counts.2) (rw (sym h))

    pub decode_short : {f : MatError} → error (failure_of f) ≡ check_outputs size.bytes size.strings (length text) (length spans) → DecodesStrings m text spans (Err f) text spans
    decode_short {f} h = comes (error (failure_of f)) (fitted h) refl refl refl

    -- one that `?` hands on
    pub hands_on_short : (r : Reply DecodedSize MatError) (f : MatError) → IsErr r × IsErrAnd r (λ y. y ≡ f)
        → error (failure_of f) ≡ check_outputs size.bytes size.strings (length text) (length spans) → DecodesStrings m text spans r text spans
    hands_on_short r f p h = comes (error (failure_of f)) (fitted h) (handed_on r f p) refl refl

    module _ (h : ok tt ≡ check_outputs size.bytes size.strings (length text) (length spans)) where
      pub decode_fits : FitsAt m (length text) (length spans) origin
      decode_fits =
          let r = outputs_passed size.bytes size.strings (length text) (length spans) (sym h) in
          record { passed = counts.0; text = omega (arith, counts.1, r.0); spans = omega (arith, counts.2, r.1) }

      pub decode_written : {next : Position} {text' spans' : List ℕ} → WritesAt m origin text spans next text' spans'
          → DecodesStrings m text spans (Ok size) text' spans'
      decode_written w =
          let c = counts in
          comes (ok (values_of m)) (fitted h) (ap ok (sym (same_value (sym (e ∙ ap (map_result size_of) c.0))))) (w.text_after ∙ put_front text (joined (values_of m)))
          (w.spans_after ∙ put_front spans (spans_from 0 (values_of m)))

-- the values of the spans of a payload fit 64 bits
pub decode_values : (payload : List ℕ) {size : DecodedSize} → ok size ≡ map_result size_of (decode_payload payload) → 2 * size.strings < 2 ^ 64
decode_values payload e =
    let c = counts_are (decode_payload payload) e in
    omega (arith, c.2, (payload_most payload c.0).1)
