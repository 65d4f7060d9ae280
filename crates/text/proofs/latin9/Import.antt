-- The loops that measure and write an imported text, and the outcomes of `import_latin9`.
-- Assumes nothing.
use mathlib.Core.Path.{◌≡◌, refl, ◌∙◌, sym, ap}
use mathlib.Core.Bool.{cond}
use mathlib.Core.List.{List, [], ◌∷◌, ◌++◌, map}
use Prim.Native.Nat.{ℕ, ◌+◌, ◌-◌, ◌*◌, ◌^◌, ◌≤◌, ◌<◌, min}
use native.Mathlib.Numerals.{add-one}
use native.Mathlib.Omega.{arith}
use borrow.Author.Tests.{lt-leb, le-leb, leb-true}
use Rattle.std.specs.Prelude.{Ok, Err}
use lib.Dec.{leb, ltb, eqb}
use lib.ListN.{length, get_or, set, drop, length-append, drop_of_length-le}
use lib.Seq.{drop-cons}
use Rattle.text.specs.Buffer.{put, Places}
use Rattle.text.specs.Latin9.{exceptions, point_in, code_point, latin9_text, import_latin9}
use Rattle.text.specs.Replies.{outcome, Writes}
use Rattle.text.specs.Result.{ok, error, map_result, check_output}
use Rattle.text.specs.Unicode.{Below, utf8}
use Rattle.text.specs.declared.error.Failure.{Failure}
use Rattle.text.specs.declared.error.MatError.TheVariants.{OutputTooShort}
use Rattle.text.proofs.BufferLaws.{SoFar, Splits, begins, fits_next, goes_on, ends, put_front, places_front}
use Rattle.text.proofs.ByteLaws.{stores}
use Rattle.text.proofs.Latin9Laws.{ascii_point, text_length_lem, own_text}
use Rattle.text.proofs.ReplyLaws.{writes, told_value, told_error}
use Rattle.text.proofs.ResultLaws.{same_value, seq_passed, check_is}
use Rattle.text.proofs.ScalarLaws.{utf8_1, utf8s_nil, utf8s_cons}
use Rattle.text.proofs.TestLaws.{either, agree}

-- ---- the size of a character in UTF-8, by one test over the 256 bytes

pub character_size : (b : ℕ) → b < 256 → cond (ltb b 0x80) 1 (cond (eqb b 0xA4) 3 2) ≡ length (utf8 (code_point b))
unfolding utf8 code_point point_in exceptions
character_size b h = agree (λ k. cond (ltb k 0x80) 1 (cond (eqb k 0xA4) 3 2)) (λ k. length (utf8 (code_point k))) 256 tt b h

-- how many of the bytes have a character of n bytes
unfoldable pub of_size : ℕ → List ℕ → ℕ
of_size n [] = 0
of_size n (b ∷ bs) = cond (eqb (length (utf8 (code_point b))) n) 1 0 + of_size n bs

-- a text's need by the sizes of its characters
pub text_need : (bs : List ℕ) → Below 256 bs → length (latin9_text bs) ≡ of_size 1 bs + 2 * of_size 2 bs + 3 * of_size 3 bs
unfolding of_size
text_need [] h = ap length utf8s_nil
text_need (b ∷ bs) h =
    let l = text_length_lem b bs in
    let r = text_need bs h.1 in
    either (ltb b 0x80)
    (λ s. let z : 1 ≡ length (utf8 (code_point b)) = simp s at (character_size b h.0) in
    rw (← z) (omega (arith, l, z, r)))
    (λ s. either (eqb b 0xA4)
    (λ e. let z : 3 ≡ length (utf8 (code_point b)) = simp (s, e) at (character_size b h.0) in
    rw (← z) (omega (arith, l, z, r)))
    (λ e. let z : 2 ≡ length (utf8 (code_point b)) = simp (s, e) at (character_size b h.0) in
    rw (← z) (omega (arith, l, z, r))))

-- ---- the text of bytes, by its first

text_none : (bs : List ℕ) {i : ℕ} → length bs ≤ i → latin9_text (drop i bs) ≡ []
text_none bs h = ap latin9_text (drop_of_length-le bs h) ∙ utf8s_nil

text_more : (bs : List ℕ) (i : ℕ) → i < length bs → latin9_text (drop i bs) ≡ utf8 (code_point (get_or bs i 0)) ++ latin9_text (drop (i + 1) bs)
text_more bs i h =
    let d : drop i bs ≡ get_or bs i 0 ∷ drop (i + 1) bs = rw (add-one, drop-cons bs i 0 h) in
    ap latin9_text d ∙ utf8s_cons (code_point (get_or bs i 0)) (map code_point (drop (i + 1) bs))

-- ---- measuring

-- of the characters before i, more bytes than one each
pub record Measuring (bs : List ℕ) (more i : ℕ) : Type 0 where
  pub bound : i ≤ length bs
  pub most : more ≤ 2 * i
  pub so_far : i + more + length (latin9_text (drop i bs)) ≡ length (latin9_text bs)

module _ (bs : List ℕ) where
  pub measure_start : Measuring bs 0 0
  measure_start = record { bound = omega arith; most = omega arith; so_far = omega arith }

  module _ {more i : ℕ} (m : Measuring bs more i) where
    pub measure_turn : {r : ℕ} → i < length bs → (r + 1 ≡ length (utf8 (code_point (get_or bs i 0)))) × (r ≤ 2) → Measuring bs (more + r) (i + 1)
    measure_turn h e = record {
      bound = omega arith;
      most = omega (arith, e.1);
      so_far = omega (arith, m.so_far, e.0, ap length (text_more bs i h), length-append (utf8 (code_point (get_or bs i 0))) (latin9_text (drop (i + 1) bs)));
    }

    pub measure_last : length bs ≤ i → length bs + more ≡ length (latin9_text bs)
    measure_last last = omega (arith, m.bound, m.so_far, ap length (text_none bs last))

-- ---- the returns of `import_length`

module _ (bs : List ℕ) (more room : ℕ) (need : length bs + more ≡ length (latin9_text bs)) where
  pub measured_past : (length bs + more < 2 ^ 64 → ⊥) → room < 2 ^ 64
      → outcome {A = ℕ} (Err (OutputTooShort 18446744073709551615)) ≡ map_result length (import_latin9 bs room)
  unfolding import_latin9
  measured_past h r =
      let p : 18446744073709551615 ≡ min (length (latin9_text bs)) (2 ^ 64 - 1) = omega (arith, need) in
      simp (lt-leb (length (latin9_text bs)) room (omega (arith, need)), sym p)

  pub measured_short : {n : ℕ} → (length bs + more < 2 ^ 64) × (n ≡ length bs + more) → room < n
      → outcome {A = ℕ} (Err (OutputTooShort n)) ≡ map_result length (import_latin9 bs room)
  unfolding import_latin9
  measured_short {n} l h =
      let p : n ≡ min (length (latin9_text bs)) (2 ^ 64 - 1) = omega (arith, need) in
      simp (lt-leb (length (latin9_text bs)) room (omega (arith, need)), sym p)

  pub measured_fits : {n : ℕ} → n ≡ length bs + more → n ≤ room → outcome (Ok n) ≡ map_result length (import_latin9 bs room)
  unfolding import_latin9
  measured_fits l h = simp (le-leb (length (latin9_text bs)) room (omega (arith, need, l)), l, need)

-- ---- writing

-- the text of the bytes before i is written
pub record Writing (bs d₀ d : List ℕ) (i o : ℕ) : Type 0 where
  pub bound : i ≤ length bs
  pub room : length (latin9_text bs) ≤ length d₀
  pub so_far : SoFar (latin9_text bs) (latin9_text (drop i bs)) d₀ d o

module _ (bs : List ℕ) where
  pub write_start : (d : List ℕ) → length (latin9_text bs) ≤ length d → Writing bs d d 0 0
  write_start d h = record { bound = omega arith; room = h; so_far = begins (latin9_text bs) d }

  module _ {d₀ d : List ℕ} {i o : ℕ} (w : Writing bs d₀ d i o) where
    module _ (h : i < length bs) {v : ℕ} (e : (v ≡ code_point (get_or bs i 0)) × (v < 65536)) where
      next_splits : Splits (latin9_text (drop i bs)) (utf8 v) (latin9_text (drop (i + 1) bs))
      next_splits = record { is = rw e.0 (text_more bs i h) }

      pub write_top : v < 1114112
      write_top = omega (arith, e.1)

      pub write_room : o + length (utf8 v) ≤ length d
      write_room = fits_next w.room next_splits w.so_far

      pub write_turn : {o' : ℕ} {d' : List ℕ} → o' ≡ o + length (utf8 v) → d' ≡ put d o (utf8 v) → Writing bs d₀ d' (i + 1) o'
      write_turn {o'} {d'} p q = record { bound = omega arith; room = w.room; so_far = goes_on w.room next_splits w.so_far d' o' q p }

    -- an ASCII byte is its own character
    module _ (h : i < length bs) (l : get_or bs i 0 < 128) where
      own_splits : Splits (latin9_text (drop i bs)) (get_or bs i 0 ∷ []) (latin9_text (drop (i + 1) bs))
      own_splits =
          let p = ascii_point (get_or bs i 0) l in
          let u : utf8 (code_point (get_or bs i 0)) ≡ get_or bs i 0 ∷ [] = ap utf8 p ∙ utf8_1 (get_or bs i 0) l in
          record { is = rw u at (text_more bs i h) }

      pub write_own_room : o < length d
      write_own_room = omega (arith, fits_next w.room own_splits w.so_far)

      pub write_own : Writing bs d₀ (set d o (get_or bs i 0)) (i + 1) (o + 1)
      write_own = record {
        bound = omega arith;
        room = w.room;
        so_far = goes_on w.room own_splits w.so_far (set d o (get_or bs i 0)) (o + 1) (stores (get_or bs i 0 ∷ []) d o (omega (arith, write_own_room))) refl;
      }

    pub write_last : length bs ≤ i → d ≡ put d₀ 0 (latin9_text bs)
    write_last h =
        ends (latin9_text bs) d₀ d o (rw (text_none bs h) at w.so_far) ∙ sym (put_front d₀ (latin9_text bs))

-- ---- the outcomes of `import_latin9`, by the length that was measured

module _ (bs text : List ℕ) where
  pub import_refused : {f : Failure} → error f ≡ map_result length (import_latin9 bs (length text)) → import_latin9 bs (length text) ≡ error f
  import_refused e = told_error length (import_latin9 bs (length text)) e

  module _ {n : ℕ} (e : ok n ≡ map_result length (import_latin9 bs (length text))) where
    accepted : (length (latin9_text bs) ≤ length text) × (length (latin9_text bs) ≡ n)
    unfolding import_latin9
    accepted =
        let p = told_value length (import_latin9 bs (length text)) e in
        let q = seq_passed (check_output (length (latin9_text bs)) (length text)) (ok (latin9_text bs)) p.1.0 in
        (leb-true _ _ (check_is 34 (leb (length (latin9_text bs)) (length text)) _ q.1.0), ap length (same_value q.1.1) ∙ p.1.1)

    pub import_room : length (latin9_text bs) ≤ length text
    import_room = accepted.0

    pub import_written : {text' : List ℕ} → text' ≡ put text 0 (latin9_text bs) → Writes (import_latin9 bs) text (Ok n) text'
    unfolding import_latin9
    import_written w =
        writes (import_latin9 bs) text (ok (latin9_text bs)) (simp (le-leb (length (latin9_text bs)) (length text) accepted.0)) (ap ok (sym accepted.1))
        (w ∙ put_front text (latin9_text bs))

    -- the bytes themselves are written where they are as many as the text's
    module _ (z : n ≡ length bs) where
      is_own : latin9_text bs ≡ bs
      is_own = own_text bs (accepted.1 ∙ z)

      pub import_own : {o : ℕ} {text' : List ℕ} → Places text 0 bs o text' → Writes (import_latin9 bs) text (Ok n) text'
      import_own w = import_written (places_front text bs (omega (arith, accepted.0, accepted.1)) w ∙ ap (put text 0) (sym is_own))
