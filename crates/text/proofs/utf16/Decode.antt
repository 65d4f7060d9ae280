-- Decoding UTF-16: a law for each return of `unit_step`, what a step says of the scalar values that are left, and the loops that
-- measure and write the text.
-- Assumes nothing.
use Rattle.std.specs.Option.{unwrap_or}
use mathlib.Core.Path.{◌≡◌, refl, ◌∙◌, sym, ap, subst}
use mathlib.Core.Bool.{Bool, true, false, cond, ◌&&◌, and-false}
use mathlib.Core.List.{List, [], ◌∷◌}
use Rattle.std.specs.Prelude.{Option, Some, None, Ok, Err}
use Rattle.std.specs.Option.{option_map}
use Rattle.std.proofs.lemmas.Option.{same_Some}
use Prim.Native.Nat.{ℕ, suc, ◌+◌, ◌-◌, ◌*◌, ◌^◌, ◌≤◌, ◌<◌}
use native.Mathlib.Numerals.{add-one}
use native.Mathlib.Omega.{arith}
use borrow.Author.Tests.{ltb-true, ltb-false, lt-leb, le-leb}
use lib.Dec.{ltb}
use lib.ListN.{length, get_or, drop, length-append, drop_of_length-le}
use lib.Seq.{drop-cons}
use Rattle.text.specs.Buffer.{put}
use Rattle.text.specs.Replies.{DecodesUtf16}
use Rattle.text.specs.Result.{ok, error, need_place}
use Rattle.text.specs.Unicode.{is_high_surrogate, is_low_surrogate, is_surrogate, utf8, utf8s}
use Rattle.text.specs.Utf16.{pair_value, scalar, unit_step, scalars16, text_of, the_text, decode_utf16}
use Rattle.text.specs.Stages.Utf16.{unit_step_at, TextFits}
use Rattle.text.specs.declared.error.MatError.TheVariants.{OutputTooShort, UnpairedSurrogate}
use Rattle.text.specs.declared.utf16.Scalar.{Scalar}
use Rattle.text.proofs.BufferLaws.{SoFar, Splits, begins, fits_next, goes_on, ends, put_front}
use Rattle.text.proofs.ReplyLaws.{writes}
use Rattle.text.proofs.ScalarLaws.{IsScalar, gap_below, gap_above, lengths, utf16_1, utf16_2, utf8s_nil, utf8s_cons}
use Rattle.text.proofs.TestLaws.{within_is}
use Rattle.text.proofs.Utf8Laws.{map_is, not_some}
use Rattle.text.proofs.Utf16Laws.{one_unit, two_units, scalars16_nil, alone, low_first, no_low}

-- ---- the first return of `step_at`

module _ (u l : ℕ) (more : Bool) where
  pub step_below : u < 0xD800 → Some (scalar u 1) ≡ unit_step u l more
  unfolding unit_step
  step_below h = simp (gap_below u h)

-- ---- a step by what the units are

pub single_step : (u l : ℕ) (more : Bool) → is_surrogate u ≡ false → Some (scalar u 1) ≡ unit_step u l more
unfolding unit_step
single_step u l more g = simp g

module _ (u l : ℕ) (g : is_surrogate u ≡ true) where
  -- no unit is left
  pub alone_step : None ≡ unit_step u l false
  unfolding unit_step
  alone_step = simp (g, and-false)

  pub pair_step : (is_high_surrogate u && is_low_surrogate l) ≡ true → Some (scalar (pair_value u l) 2) ≡ unit_step u l true
  unfolding unit_step
  pair_step p = simp (g, p)

  pub unpaired_step : (is_high_surrogate u && is_low_surrogate l) ≡ false → None ≡ unit_step u l true
  unfolding unit_step
  unpaired_step p = simp (g, p)

-- ---- what a step says of the scalar values that are left

-- code units are read up to index i
pub record Reading (us : List ℕ) (i : ℕ) : Type 0 where
  pub units : (k : ℕ) → get_or us k 0 < 65536
  pub inside : i ≤ length us

-- a step that found v took n units
pub record Found (us : List ℕ) (i v n : ℕ) : Type 0 where
  pub on : 0 < n
  pub inside : i + n ≤ length us
  pub scalar : IsScalar v
  pub size : length (utf8 v) ≤ 3 * n
  pub rest : scalars16 (drop i us) ≡ option_map (λ vs. v ∷ vs) (scalars16 (drop (i + n) us))

abbrev Finds : List ℕ → ℕ → Option Scalar → Type 0
Finds us i (Some s) = Found us i s.value s.units
Finds us i None = scalars16 (drop i us) ≡ None

module _ {us : List ℕ} {i : ℕ} (r : Reading us i) (here : i < length us) where
  one_here : drop i us ≡ get_or us i 0 ∷ drop (i + 1) us
  one_here = rw (add-one, drop-cons us i 0)

  two_here : ltb (i + 1) (length us) ≡ true → drop i us ≡ get_or us i 0 ∷ get_or us (i + 1) 0 ∷ drop (i + 2) us
  two_here m =
      let s : i + 2 ≡ suc (i + 1) = omega arith in
      one_here ∙ ap (λ (d : List ℕ). get_or us i 0 ∷ d) (rw s (drop-cons us (i + 1) 0 (ltb-true (i + 1) (length us) m)))

  last_here : ltb (i + 1) (length us) ≡ false → drop i us ≡ get_or us i 0 ∷ []
  last_here m = one_here ∙ ap (λ (d : List ℕ). get_or us i 0 ∷ d) (drop_of_length-le us (ltb-false (i + 1) (length us) m))

  finds_by : (t h m g : Bool) → is_surrogate (get_or us i 0) ≡ t → is_high_surrogate (get_or us i 0) ≡ h → ltb (i + 1) (length us) ≡ m
      → is_low_surrogate (get_or us (i + 1) 0) ≡ g
      → Finds us i (cond t (cond (h && (m && g)) (Some (scalar (pair_value (get_or us i 0) (get_or us (i + 1) 0)) 2)) None) (Some (scalar (get_or us i 0) 1)))
  finds_by false h m g et eh em eg = record {
    on = omega arith;
    inside = omega arith;
    scalar = record { top = omega (arith, r.units i); gap = et };
    size = omega (arith, lengths (get_or us i 0), ap length (utf16_1 (get_or us i 0) (r.units i)));
    rest = ap scalars16 one_here ∙ one_unit (get_or us i 0) (drop (i + 1) us) et;
  }
  finds_by true true true true et eh em eg =
      let a = within_is 0xD800 0xDBFF (get_or us i 0) eh in
      let b = within_is 0xDC00 0xDFFF (get_or us (i + 1) 0) eg in
      let n : i + 1 < length us = ltb-true (i + 1) (length us) em in
      record {
        on = omega arith;
        inside = omega arith;
        scalar = record { top = omega arith; gap = gap_above (pair_value (get_or us i 0) (get_or us (i + 1) 0)) (omega arith) };
        size =
            omega (arith, lengths (pair_value (get_or us i 0) (get_or us (i + 1) 0)), ap length (utf16_2 (pair_value (get_or us i 0) (get_or us (i + 1) 0)) (omega arith)));
        rest = ap scalars16 (two_here em) ∙ two_units (get_or us i 0) (get_or us (i + 1) 0) (drop (i + 2) us) eh eg;
      }
  finds_by true true true false et eh em eg =
      ap scalars16 (two_here em) ∙ no_low (get_or us i 0) (get_or us (i + 1) 0) (drop (i + 2) us) eh eg
  finds_by true true false g et eh em eg = ap scalars16 (last_here em) ∙ alone (get_or us i 0) et
  finds_by true false true g et eh em eg =
      ap scalars16 (two_here em) ∙ low_first (get_or us i 0) (get_or us (i + 1) 0) (drop (i + 2) us) et eh
  finds_by true false false g et eh em eg = ap scalars16 (last_here em) ∙ alone (get_or us i 0) et

  finds : Finds us i (unit_step_at us i)
  unfolding unit_step
  finds = finds_by (is_surrogate (get_or us i 0)) (is_high_surrogate (get_or us i 0)) (ltb (i + 1) (length us)) (is_low_surrogate (get_or us (i + 1) 0)) refl refl refl refl

  module _ {x : Option Scalar} (e : x ≡ unit_step_at us i) where
    pub found : {s : Scalar} → x ≡ Some s → Found us i s.value s.units
    found g = rw (sym e ∙ g) at finds

    pub found_unpaired : x ≡ None → scalars16 (drop i us) ≡ None
    found_unpaired g = rw (sym e ∙ g) at finds

    pub reads_on : {s : Scalar} → x ≡ Some s → Reading us (i + s.units)
    reads_on g = record { units = r.units; inside = (found g).inside }

    pub step_less : {s : Scalar} → x ≡ Some s → length us - (i + s.units) < length us - i
    step_less g = let f = found g in omega arith

pub reads_start : (us : List ℕ) → ((k : ℕ) → get_or us k 0 < 65536) → Reading us 0
reads_start us u = record { units = u; inside = omega arith }

-- nothing is left
none_left : (us : List ℕ) (i : ℕ) → length us ≤ i → scalars16 (drop i us) ≡ Some []
none_left us i h = ap scalars16 (drop_of_length-le us h) ∙ scalars16_nil

-- ---- measuring

-- the length of a text of which n bytes are measured, by the scalar values that are left
abbrev pub with_rest : ℕ → Option (List ℕ) → Option ℕ
with_rest n m = option_map (λ vs. n + length (utf8s vs)) m

-- bytes are measured before unit i
pub record Measuring (us : List ℕ) (bytes i : ℕ) : Type 0 where
  pub reading : Reading us i
  pub most : bytes ≤ 3 * i
  pub so_far : option_map length (text_of us) ≡ with_rest bytes (scalars16 (drop i us))

from_none : (m : Option (List ℕ)) → option_map length (option_map utf8s m) ≡ with_rest 0 m
from_none (Some vs) = ap Some (omega arith)
from_none None = refl

one_more : (n v : ℕ) (m : Option (List ℕ)) {n' : ℕ} → n' ≡ n + length (utf8 v) → with_rest n (option_map (λ vs. v ∷ vs) m) ≡ with_rest n' m
one_more n v (Some vs) e = ap Some (omega (arith, ap length (utf8s_cons v vs), length-append (utf8 v) (utf8s vs)))
one_more n v None e = refl

pub measure_start : {us : List ℕ} → Reading us 0 → Measuring us 0 0
measure_start {us} r = record { reading = r; most = omega arith; so_far = from_none (scalars16 us) }

module _ {us : List ℕ} {bytes i : ℕ} (m : Measuring us bytes i) where
  module _ {x : Option Scalar} (h : i < length us) (e : x ≡ unit_step_at us i) where
    pub measure_size : {s : Scalar} {l : ℕ} → x ≡ Some s → (l ≡ length (utf8 s.value)) × (l ≤ 4) → Measuring us (bytes + l) (i + s.units)
    measure_size {s} {l} g z =
        let f = found m.reading h e g in
        record {
          reading = reads_on m.reading h e g;
          most = omega (arith, f.size, m.most);
          so_far =
              m.so_far
              ∙ ap (with_rest bytes) f.rest
              ∙ one_more bytes s.value (scalars16 (drop (i + s.units) us)) (ap (λ (k : ℕ). bytes + k) z.0);
        }

    pub measure_stop : x ≡ None → None ≡ option_map length (text_of us)
    measure_stop g = sym (m.so_far ∙ ap (with_rest bytes) (found_unpaired m.reading h e g))

  pub measure_last : length us ≤ i → Some bytes ≡ option_map length (text_of us)
  measure_last h =
      let z : bytes + length (utf8s []) ≡ bytes = omega (arith, ap length utf8s_nil) in
      sym (m.so_far ∙ ap (with_rest bytes) (none_left us i h) ∙ ap Some z)

-- ---- writing

-- the scalar values more are left from unit i on, and the bytes before theirs are written
pub record Writing (us d₀ d : List ℕ) (i o : ℕ) : Type 0 where
  pub reading : Reading us i
  pub more : List ℕ
  pub rest : scalars16 (drop i us) ≡ Some more
  pub room : length (the_text us) ≤ length d₀
  pub so_far : SoFar (the_text us) (utf8s more) d₀ d o

pub write_start : {us d : List ℕ} → Reading us 0 → TextFits us d → Writing us d d 0 0
write_start {us} {d} r f =
    let m = map_is utf8s (scalars16 us) f.is_text_lem in
    record {
      reading = r;
      more = m.0;
      rest = m.1.0;
      room = f.fits;
      so_far = subst (λ (r : List ℕ). SoFar (the_text us) r d d 0) m.1.1 (begins (the_text us) d);
    }

module _ {us d₀ d : List ℕ} {i o : ℕ} (w : Writing us d₀ d i o) where
  module _ {x : Option Scalar} (h : i < length us) (e : x ≡ unit_step_at us i) where
    module _ {s : Scalar} (g : x ≡ Some s) where
      next_values : (vs : List ℕ) × ((scalars16 (drop (i + s.units) us) ≡ Some vs) × (w.more ≡ s.value ∷ vs))
      next_values = map_is (λ vs. s.value ∷ vs) (scalars16 (drop (i + s.units) us)) (sym (found w.reading h e g).rest ∙ w.rest)

      next_splits : Splits (utf8s w.more) (utf8 s.value) (utf8s next_values.0)
      next_splits = record { is = ap utf8s next_values.1.1 ∙ utf8s_cons s.value next_values.0 }

      pub write_top : s.value < 1114112
      write_top = (found w.reading h e g).scalar.top

      pub write_room : o + length (utf8 s.value) ≤ length d
      write_room = fits_next w.room next_splits w.so_far

      pub write_turn : {o' : ℕ} {d' : List ℕ} → o' ≡ o + length (utf8 s.value) → d' ≡ put d o (utf8 s.value) → Writing us d₀ d' (i + s.units) o'
      write_turn {o'} {d'} p q = record {
        reading = reads_on w.reading h e g;
        more = next_values.0;
        rest = next_values.1.0;
        room = w.room;
        so_far = goes_on w.room next_splits w.so_far d' o' q p;
      }

    -- a text that is written has no such surrogate
    pub write_never : x ≡ None → d ≡ put d₀ 0 (the_text us)
    write_never g = not_some (sym (found_unpaired w.reading h e g) ∙ w.rest)

  pub write_last : length us ≤ i → d ≡ put d₀ 0 (the_text us)
  write_last h =
      let n : w.more ≡ [] = same_Some w.more [] (sym w.rest ∙ none_left us i h) in
      let s : SoFar (the_text us) [] d₀ d o = rw (ap utf8s n ∙ utf8s_nil) at w.so_far in
      ends (the_text us) d₀ d o s ∙ sym (put_front d₀ (the_text us))

-- ---- the outcomes of `decode_utf16`, by the length that was measured

-- what a length says of the text
abbrev Measured : List ℕ → Option ℕ → Type 0
Measured us (Some n) = (text_of us ≡ Some (the_text us)) × (length (the_text us) ≡ n)
Measured us None = text_of us ≡ None

measured : (us : List ℕ) (x : Option ℕ) (o : Option (List ℕ)) → text_of us ≡ o → x ≡ option_map length o → Measured us x
measured us (Some n) None e f = not_some (sym f)
measured us (Some n) (Some t) e f =
    let s : the_text us ≡ t = ap (λ (o : Option (List ℕ)). unwrap_or o []) e in
    (e ∙ ap Some (sym s), ap length s ∙ sym (same_Some n (length t) f))
measured us None None e f = e
measured us None (Some t) e f = not_some f

module _ (us text : List ℕ) where
  too_short : (need : ℕ) → text_of us ≡ Some (the_text us) → length text < length (the_text us) → need ≡ need_place (length (the_text us))
      → DecodesUtf16 us text (Err (OutputTooShort need)) text
  unfolding decode_utf16
  too_short need t h p =
      writes (decode_utf16 us) text (error (record { number = 34; place = need }))
      (rw t (simp (lt-leb (length (the_text us)) (length text) h, sym p))) refl refl

  module _ {x : Option ℕ} (e : x ≡ option_map length (text_of us)) where
    said : {y : Option ℕ} → x ≡ y → Measured us y
    said {y} g = subst (Measured us) g (measured us x (text_of us) refl e)

    module _ {n : ℕ} (g : x ≡ Some n) where
      pub decode_short : n < 2 ^ 64 → length text < n → DecodesUtf16 us text (Err (OutputTooShort n)) text
      decode_short f h =
          let s = said g in
          too_short n s.0 (omega arith) (omega arith)

      pub decode_fits : n ≤ length text → TextFits us text
      decode_fits h = let s = said g in record { is_text_lem = s.0; fits = omega arith }

      pub decode_written : n ≤ length text → {text' : List ℕ} → text' ≡ put text 0 (the_text us) → DecodesUtf16 us text (Ok n) text'
      unfolding decode_utf16
      decode_written h {text'} b =
          let s = said g in
          writes (decode_utf16 us) text (ok (the_text us)) (rw s.0 (simp (le-leb (length (the_text us)) (length text) (omega arith)))) (ap ok (sym s.1))
          (b ∙ put_front text (the_text us))

    pub decode_unpaired : x ≡ None → DecodesUtf16 us text (Err (UnpairedSurrogate 0)) text
    unfolding decode_utf16
    decode_unpaired g = writes (decode_utf16 us) text (error (record { number = 29; place = 0 })) (rw (said g)) refl refl
