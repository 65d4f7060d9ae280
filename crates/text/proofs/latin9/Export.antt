-- A character that stands in a text, the loops that measure and write an export, and the outcomes of `export_latin9`.
-- Assumes nothing.
use mathlib.Core.Path.{◌≡◌, refl, ◌∙◌, sym, ap, ap₂}
use mathlib.Core.Bool.{Bool, true, false, not}
use mathlib.Core.List.{List, [], ◌∷◌}
use Rattle.std.specs.Prelude.{Option, Some, None, Ok, Err}
use Rattle.std.specs.Option.{option_map}
use Rattle.std.proofs.lemmas.Option.{same_Some}
use Prim.Native.Nat.{ℕ, suc, ◌+◌, ◌-◌, ◌^◌, ◌≤◌, ◌<◌, min}
use native.Mathlib.Numerals.{add-one}
use native.Mathlib.Omega.{arith}
use borrow.Author.Tests.{lt-leb, le-leb, lt-ltb, le-ltb, eqb-true, eqb-false, not-true, not-false}
use lib.Dec.{ltb, eqb}
use lib.ListN.{length, get_or, set}
use Rattle.text.specs.Buffer.{put, Places}
use Rattle.text.specs.Latin9.{code_point, byte_of, bytes_from, latin9_bytes, export_latin9}
use Rattle.text.specs.Stages.Latin9.{size_by, CharacterAt, BytesFit}
use Rattle.text.specs.Replies.{outcome, Writes}
use Rattle.text.specs.Result.{Result, ok, error, map_result, or_error, values_of, ◌>>=◌}
use Rattle.text.specs.Stages.Utf8.{whole_length, is_text}
use Rattle.text.specs.Unicode.{utf8}
use Rattle.text.specs.Utf8.{sequence_length, matched, value_at, whole_at, step_at, parts_from, scalars_of, scalars8}
use Rattle.text.specs.declared.error.Failure.{Failure}
use Rattle.text.specs.declared.error.MatError.TheVariants.{InvalidText, UnmappableCharacter, OutputTooShort}
use Rattle.text.specs.declared.utf8.Step.{Step}
use Rattle.text.specs.declared.utf8.Step.TheVariants.{Scalar, IllFormed, End}
use Rattle.text.proofs.BufferLaws.{SoFar, Splits, begins, fits_next, goes_on, ends, put_front, places_front}
use Rattle.text.proofs.ByteLaws.{size_1, size_2, size_3, stores}
use Rattle.text.proofs.utf8.Count.{whole_least, broken_here, scalar_here, whole_is}
use Rattle.text.proofs.Latin9Laws.{byte_back, byte_is, ascii_point, point_top, high_none, far_none, gave_way, exported_text, own_text}
use Rattle.text.proofs.LeadLaws.{ascii, lead_range, starts_byte, not_one}
use Rattle.text.proofs.PartLaws.{Reads, step_reads, step_end, parts_end, parts_scalar, parts_ill_formed}
use Rattle.text.proofs.ReplyLaws.{writes, told_value, told_error}
use Rattle.text.proofs.ResultLaws.{same_value, bind_passed, or_error_passed}
use Rattle.text.proofs.ScalarLaws.{by_size}
use Rattle.text.proofs.TestLaws.{not_both, and_is}
use Rattle.text.proofs.Utf8Laws.{map_is, not_some, took_size, starts, value_is, next_after}

-- ---- the returns of `gave_way`

pub does : (b : ℕ) {v : ℕ} → eqb (code_point b) b ≡ false → v ≡ b → true ≡ not (eqb (code_point v) v)
does b n e = rw (e, n)

-- ---- the returns of `byte_of`

module _ {v : ℕ} {r : Bool} (h : v < 256) (is : r ≡ not (eqb (code_point v) v)) where
  pub own_byte : not r ≡ true → Some v ≡ byte_of v
  own_byte n = sym (rw (eqb-true (code_point v) v (not-false (eqb (code_point v) v) (sym is ∙ not-true r n))) at (byte_back v h))

  pub no_byte : not r ≡ false → None ≡ byte_of v
  no_byte n = sym (gave_way v h (eqb-false (code_point v) v (not-true (eqb (code_point v) v) (sym is ∙ not-false r n))))

pub ruleset bytes_of = (own_byte, no_byte, high_none)

-- ---- the returns of `byte_at`

module _ {t : List ℕ} {i n : ℕ} (s : CharacterAt t i n) where
  pub four_bytes : 3 < n → None ≡ byte_of (value_at t i n)
  four_bytes few =
      let v : ℕ = value_at t i n in
      let z : n ≡ length (utf8 v) = omega (arith, took_size (step_reads t i s.step)) in
      by_size v (λ h. absurd (omega (arith, z, size_1 v h, s.least))) (λ l h. absurd (omega (arith, z, size_2 v l h))) (λ l h. absurd (omega (arith, z, size_3 v l h)))
      (λ l. far_none v (omega arith))

-- ---- the loop of `is_text_from`

-- all before i is well-formed
pub record Checking (t : List ℕ) (start i : ℕ) : Type 0 where
  pub same : is_text (scalars_of (parts_from t start)) ≡ is_text (scalars_of (parts_from t i))

still_text : (v : ℕ) (m : Option (List ℕ)) → is_text (option_map (λ vs. v ∷ vs) m) ≡ is_text m
still_text v (Some vs) = refl
still_text v None = refl

module _ (t : List ℕ) where
  module _ {start i : ℕ} (c : Checking t start i) where
    check_scalar : {v next : ℕ} → step_at t i ≡ Scalar v next → Checking t start next
    unfolding scalars_of
    check_scalar {v} {next} e = record { same = (rw (parts_scalar t i e) at c.same) ∙ still_text v (scalars_of (parts_from t next)) }

    pub check_ascii : i < length t → get_or t i 0 < 128 → Checking t start (i + 1)
    check_ascii h b = check_scalar (sym (ascii t i h b))

    pub check_whole : {r : ℕ} → i < length t → Some r ≡ whole_length t i → Checking t start (i + r)
    check_whole h e = check_scalar (scalar_here t i h e)

    pub check_broken : i < length t → None ≡ whole_length t i → false ≡ is_text (scalars_of (parts_from t start))
    unfolding scalars_of
    check_broken h e = sym (rw (parts_ill_formed t i (broken_here t i h e)) at c.same)

    pub check_last : length t ≤ i → true ≡ is_text (scalars_of (parts_from t start))
    unfolding scalars_of
    check_last h = sym (rw (parts_end t i h) at c.same)

-- an ASCII character is its own byte
ascii_byte : (b : ℕ) → b < 128 → byte_of b ≡ Some b
ascii_byte b h = rw (ascii_point b h) at (byte_back b (omega arith))

-- what the test says of characters
text_is : (m : Option (List ℕ)) → is_text m ≡ true → (vs : List ℕ) × (m ≡ Some vs)
text_is (Some vs) e = (vs, refl)
text_is None e = not_both e refl

text_not : (m : Option (List ℕ)) → is_text m ≡ false → m ≡ None
text_not (Some vs) e = not_both refl e
text_not None e = refl

-- a whole sequence that does not begin with an ASCII byte has two bytes at least
stands_whole : (t : List ℕ) (i : ℕ) {r : ℕ} → i < length t → Some r ≡ whole_length t i → 128 ≤ get_or t i 0 → CharacterAt t i r
unfolding whole_at
stands_whole t i {r} h e l =
    let w = whole_is t i h e in
    let p = and_is (ltb 0 (sequence_length (get_or t i 0))) (eqb (matched t i) (sequence_length (get_or t i 0))) w.0 in
    let k = eqb-true (matched t i) (sequence_length (get_or t i 0)) p.1 in
    let s = scalar_here t i h e in
    record { step = s; least = omega (arith, whole_least t i h e, w.1, k, not_one (get_or t i 0) l); inside = (step_reads t i s).advance.inside }

-- the size by the first byte is that of a character that has a byte
length_by_lem : (t : List ℕ) (i : ℕ) {v next : ℕ} → Reads t i v next → v < 0x3000 → 128 ≤ get_or t i 0 → sequence_length (get_or t i 0) ≡ size_by (get_or t i 0)
length_by_lem t i {v} {next} r s l =
    let a : ℕ = get_or t i 0 in
    let p = starts t i v next r in
    let n : sequence_length a ≡ length (utf8 v) = omega (arith, took_size r, next_after t i v next r (sequence_length a) refl p) in
    by_size v (λ h. absurd (not_one a l (n ∙ sym (size_1 v h))))
    (λ k h. let z = lead_range a (starts_byte a p) 2 (size_2 v k h ∙ sym n) (omega arith) in n ∙ sym (size_2 v k h) ∙ sym (simp (lt-ltb a 0xE0 z.to)))
    (λ k h. let z = lead_range a (starts_byte a p) 3 (size_3 v k h ∙ sym n) (omega arith) in n ∙ sym (size_3 v k h) ∙ sym (simp (le-ltb a 0xE0 z.from)))
    (λ k. absurd (omega arith))

-- ---- measuring

-- the number of bytes of a text of which n are counted, by the characters that are left
abbrev with_bytes : ℕ → Option (List ℕ) → Result ℕ
with_bytes n m = or_error (record { number = 30; place = 0 }) m >>= λ vs. map_result (λ bs. n + length bs) (bytes_from n vs)

-- n characters before position i have a byte
pub record Measuring (t : List ℕ) (n i : ℕ) : Type 0 where
  pub bound : i ≤ length t
  pub most : n ≤ i
  pub so_far : map_result length (latin9_bytes t) ≡ with_bytes n (scalars_of (parts_from t i))

from_none : (m : Option (List ℕ)) → map_result length (or_error (record { number = 30; place = 0 }) m >>= bytes_from 0) ≡ with_bytes 0 m
from_none None = refl
from_none (Some vs) = by (bytes_from 0 vs)
  where
    by : (k : Result (List ℕ)) → map_result length k ≡ map_result (λ bs. 0 + length bs) k
    by (ok bs) = ap ok (omega arith)
    by (error e) = refl

one_more : (n v b : ℕ) → byte_of v ≡ Some b → (m : Option (List ℕ)) → with_bytes n (option_map (λ vs. v ∷ vs) m) ≡ with_bytes (n + 1) m
unfolding bytes_from
one_more n v b e None = refl
one_more n v b e (Some vs) = rw (e, add-one) (by (bytes_from (suc n) vs))
  where
    by : (k : Result (List ℕ)) → map_result (λ bs. n + length bs) (k >>= λ bs. ok (b ∷ bs)) ≡ map_result (λ bs. suc n + length bs) k
    by (ok bs) = ap ok (omega arith)
    by (error e) = refl

not_mapped : (n v : ℕ) → None ≡ byte_of v → (vs : List ℕ) → with_bytes n (Some (v ∷ vs)) ≡ error (record { number = 36; place = n })
unfolding bytes_from
not_mapped n v e vs = rw (← e)

module _ (t : List ℕ) where
  pub measure_start : Measuring t 0 0
  unfolding latin9_bytes
  measure_start = record { bound = omega arith; most = omega arith; so_far = from_none (scalars8 t) }

  module _ {n i : ℕ} (m : Measuring t n i) where
    measure_scalar : {v next b : ℕ} → step_at t i ≡ Scalar v next → byte_of v ≡ Some b → Measuring t (n + 1) next
    unfolding scalars_of
    measure_scalar {v} {next} {b} e y =
        let a = (step_reads t i e).advance in
        record {
          bound = a.inside;
          most = omega (arith, a, m.most);
          so_far = (rw (parts_scalar t i e) at m.so_far) ∙ one_more n v b y (scalars_of (parts_from t next));
        }

    pub measure_ascii : i < length t → get_or t i 0 < 128 → Measuring t (n + 1) (i + 1)
    measure_ascii h b = measure_scalar (sym (ascii t i h b)) (ascii_byte (get_or t i 0) b)

    pub measure_broken : i < length t → None ≡ whole_length t i → outcome {A = ℕ} (Err (InvalidText 0)) ≡ map_result length (latin9_bytes t)
    unfolding scalars_of
    measure_broken h e = sym (rw (parts_ill_formed t i (broken_here t i h e)) at m.so_far)

    module _ {r : ℕ} (h : i < length t) (e : Some r ≡ whole_length t i) where
      module _ (l : 128 ≤ get_or t i 0) where
        pub measure_stands : CharacterAt t i r
        measure_stands = stands_whole t i h e l

        module _ {x : Option ℕ} (is : x ≡ byte_of (value_at t i r)) where
          pub measure_byte : {b : ℕ} → x ≡ Some b → Measuring t (n + 1) (i + r)
          measure_byte {b} g = measure_scalar measure_stands.step (sym is ∙ g)

          module _ (g : x ≡ None) {y : Bool} (rest : y ≡ is_text (scalars_of (parts_from t (i + r)))) where
            left_over : map_result length (latin9_bytes t) ≡ with_bytes n (option_map (λ vs. value_at t i r ∷ vs) (scalars_of (parts_from t (i + r))))
            unfolding scalars_of
            left_over = rw (parts_scalar t i measure_stands.step) at m.so_far

            pub measure_unmappable : y ≡ true → outcome (Err (UnmappableCharacter n)) ≡ map_result length (latin9_bytes t)
            measure_unmappable q =
                let k = text_is (scalars_of (parts_from t (i + r))) (sym rest ∙ q) in
                sym (left_over ∙ rw k.1 (not_mapped n (value_at t i r) (sym g ∙ is) k.0))

            pub measure_late : y ≡ false → outcome (Err (InvalidText 0)) ≡ map_result length (latin9_bytes t)
            measure_late q = sym (left_over ∙ rw (text_not (scalars_of (parts_from t (i + r))) (sym rest ∙ q)))

    pub measure_last : length t ≤ i → outcome (Ok n) ≡ map_result length (latin9_bytes t)
    unfolding scalars_of bytes_from
    measure_last h =
        let z : n + 0 ≡ n = omega arith in
        sym ((rw (parts_end t i h) at m.so_far) ∙ ap ok z)

-- ---- writing

-- the bytes before those that are left from position i on are written
pub record Writing (t d₀ d : List ℕ) (i o : ℕ) : Type 0 where
  pub bound : i ≤ length t
  pub characters : List ℕ
  pub bytes : List ℕ
  pub rest : scalars_of (parts_from t i) ≡ Some characters
  pub mapped : bytes_from o characters ≡ ok bytes
  pub room : length (values_of (latin9_bytes t)) ≤ length d₀
  pub so_far : SoFar (values_of (latin9_bytes t)) bytes d₀ d o

pub write_start : {t d : List ℕ} → BytesFit t d → Writing t d d 0 0
unfolding latin9_bytes
write_start {t} {d} f =
    let p = bind_passed (or_error (record { number = 30; place = 0 }) (scalars8 t)) (bytes_from 0) f.are_bytes in
    record {
      bound = omega arith;
      characters = p.0;
      bytes = values_of (latin9_bytes t);
      rest = or_error_passed (record { number = 30; place = 0 }) (scalars8 t) p.1.0;
      mapped = p.1.1;
      room = f.fits;
      so_far = begins (values_of (latin9_bytes t)) d;
    }

-- the next character, with its byte
record Next (t : List ℕ) (i o : ℕ) (cs bs : List ℕ) : Type 0 where
  value : ℕ
  next : ℕ
  byte : ℕ
  others : List ℕ
  more : List ℕ
  step : step_at t i ≡ Scalar value next
  has : byte_of value ≡ Some byte
  rest : scalars_of (parts_from t next) ≡ Some others
  mapped : bytes_from (suc o) others ≡ ok more
  is : bs ≡ byte ∷ more

next_by : (t : List ℕ) (i o : ℕ) {cs bs : List ℕ} → i < length t → scalars_of (parts_from t i) ≡ Some cs → bytes_from o cs ≡ ok bs
    → (x : Step) → step_at t i ≡ x → Next t i o cs bs
unfolding scalars_of bytes_from
next_by t i o {cs} {bs} h r m (Scalar v next) e =
    let p = map_is (λ vs. v ∷ vs) (scalars_of (parts_from t next)) (rw (parts_scalar t i e) at r) in
    let b = bind_passed (or_error (record { number = 36; place = o }) (byte_of v)) (λ b. bytes_from (suc o) p.0 >>= λ bs. ok (b ∷ bs)) (rw p.1.1 at m) in
    let q = bind_passed (bytes_from (suc o) p.0) (λ bs. ok (b.0 ∷ bs)) b.1.1 in
    record {
      value = v;
      next = next;
      byte = b.0;
      others = p.0;
      more = q.0;
      step = e;
      has = or_error_passed (record { number = 36; place = o }) (byte_of v) b.1.0;
      rest = p.1.0;
      mapped = q.1.0;
      is = sym (same_value {x = b.0 ∷ q.0} q.1.1);
    }
next_by t i o h r m (IllFormed next) e = not_some (rw (parts_ill_formed t i e) at r)
next_by t i o h r m End e = absurd (omega (arith, step_end t i e))

module _ {t d₀ d : List ℕ} {i o : ℕ} (w : Writing t d₀ d i o) where
  module _ (h : i < length t) where
    here : Next t i o w.characters w.bytes
    here = next_by t i o h w.rest w.mapped (step_at t i) refl

    next_splits : Splits w.bytes (here.byte ∷ []) here.more
    next_splits = record { is = here.is }

    pub write_room : o < length d
    write_room = omega (arith, fits_next w.room next_splits w.so_far)

    write_on : {next b : ℕ} → next ≡ here.next → b ≡ here.byte → Writing t d₀ (set d o b) next (o + 1)
    write_on {next} {b} n e = record {
      bound = rw n (step_reads t i here.step).advance.inside;
      characters = here.others;
      bytes = here.more;
      rest = rw n here.rest;
      mapped = rw add-one here.mapped;
      room = w.room;
      so_far =
          goes_on w.room next_splits w.so_far (set d o b) (o + 1)
          (ap (set d o) e ∙ stores (here.byte ∷ []) d o (omega (arith, write_room))) refl;
    }

    pub write_ascii : get_or t i 0 < 128 → Writing t d₀ (set d o (get_or t i 0)) (i + 1) (o + 1)
    write_ascii l =
        let e : Scalar (get_or t i 0) (i + 1) ≡ Scalar here.value here.next = ascii t i h l ∙ here.step in
        let v : get_or t i 0 ≡ here.value = cc in
        let n : i + 1 ≡ here.next = cc in
        write_on n (same_Some (get_or t i 0) here.byte (sym (ascii_byte (get_or t i 0) l) ∙ ap byte_of v ∙ here.has))

    module _ (l : 128 ≤ get_or t i 0) {r : ℕ} (e : r ≡ size_by (get_or t i 0)) where
      reads : Reads t i here.value here.next
      reads = step_reads t i here.step

      small : here.value < 0x3000
      small = let p = byte_is here.has in rw p.1 at (point_top here.byte p.0)

      lead_length : sequence_length (get_or t i 0) ≡ r
      lead_length = length_by_lem t i reads small l ∙ sym e

      pub write_stands : CharacterAt t i r
      write_stands =
          let g = starts t i here.value here.next reads in
          let n : here.next ≡ i + r = next_after t i here.value here.next reads r lead_length (omega (arith, lead_length)) in
          let v : here.value ≡ value_at t i r = value_is t i here.value here.next reads r lead_length in
          record {
            step = here.step ∙ ap₂ (λ (a b : ℕ). Scalar a b) v n;
            least = omega (arith, not_one (get_or t i 0) l, lead_length, g);
            inside = rw n at reads.advance.inside;
          }

      same_byte : {m : Option ℕ} → m ≡ byte_of (value_at t i r) → m ≡ Some here.byte
      same_byte is =
          let v : here.value ≡ value_at t i r = value_is t i here.value here.next reads r lead_length in
          is ∙ ap byte_of (sym v) ∙ here.has

      module _ {x : Option ℕ} (is : x ≡ byte_of (value_at t i r)) where
        pub write_byte : {b : ℕ} → x ≡ Some b → Writing t d₀ (set d o b) (i + r) (o + 1)
        write_byte {b} g =
            let s = starts t i here.value here.next reads in
            let n : here.next ≡ i + r = next_after t i here.value here.next reads r lead_length (omega (arith, lead_length)) in
            write_on (sym n) (same_Some b here.byte (sym (g) ∙ same_byte is))

        -- a text that is exported has no such character
        pub write_never : x ≡ None → d ≡ put d₀ 0 (values_of (latin9_bytes t))
        write_never g = not_some (sym (g) ∙ same_byte is)

  pub write_last : length t ≤ i → d ≡ put d₀ 0 (values_of (latin9_bytes t))
  unfolding scalars_of bytes_from
  write_last h =
      let c : w.characters ≡ [] = same_Some w.characters [] (sym w.rest ∙ ap scalars_of (parts_end t i h)) in
      let b : w.bytes ≡ [] = same_value (sym w.mapped ∙ ap (bytes_from o) c) in
      ends (values_of (latin9_bytes t)) d₀ d o (rw b at w.so_far) ∙ sym (put_front d₀ (values_of (latin9_bytes t)))

-- ---- the outcomes of `export_latin9`, by the length that was measured

module _ (t out : List ℕ) where
  pub export_refused : {f : Failure} → error f ≡ map_result length (latin9_bytes t) → export_latin9 t (length out) ≡ error f
  unfolding export_latin9
  export_refused e = rw (told_error length (latin9_bytes t) e)

  module _ {n : ℕ} (e : ok n ≡ map_result length (latin9_bytes t)) where
    accepted : (latin9_bytes t ≡ ok (values_of (latin9_bytes t))) × (length (values_of (latin9_bytes t)) ≡ n)
    accepted =
        let p = told_value length (latin9_bytes t) e in
        let v : values_of (latin9_bytes t) ≡ p.0 = ap values_of p.1.0 in
        (p.1.0 ∙ ap ok (sym v), ap length v ∙ p.1.1)

    pub export_short : n < 2 ^ 64 → length out < n → Writes (export_latin9 t) out (Err (OutputTooShort n)) out
    unfolding export_latin9
    export_short f h =
        let a = accepted in
        let p : n ≡ min (length (values_of (latin9_bytes t))) (2 ^ 64 - 1) = omega (arith, a.1) in
        writes (export_latin9 t) out (error (record { number = 34; place = n }))
        (rw a.0 (simp (lt-leb (length (values_of (latin9_bytes t))) (length out) (omega (arith, a.1)), sym p))) refl refl

    module _ (h : n ≤ length out) where
      pub export_written : {out' : List ℕ} → out' ≡ put out 0 (values_of (latin9_bytes t)) → Writes (export_latin9 t) out (Ok n) out'
      unfolding export_latin9
      export_written w =
          let a = accepted in
          writes (export_latin9 t) out (ok (values_of (latin9_bytes t)))
          (rw a.0 (simp (le-leb (length (values_of (latin9_bytes t))) (length out) (omega (arith, a.1))))) (ap ok (sym a.1))
          (w ∙ put_front out (values_of (latin9_bytes t)))

      -- the text itself is written where its bytes are as many
      pub export_own : n ≡ length t → {o : ℕ} {out' : List ℕ} → Places out 0 t o out' → Writes (export_latin9 t) out (Ok n) out'
      export_own z w =
          let a = accepted in
          let s = exported_text t a.0 in
          let o = own_text (values_of (latin9_bytes t)) (sym (ap length s) ∙ sym z ∙ sym a.1) in
          export_written (places_front out t (omega arith) w ∙ ap (put out 0) (s ∙ o))
