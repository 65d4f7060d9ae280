-- Writing a payload that was measured, and the outcomes of `encode_string_saveobj_payload`.
-- Assumes nothing.
use Rattle.std.specs.Prelude.{Ok, Err}
use mathlib.Core.Path.{◌≡◌, refl, sym, ap, ◌∙◌}
use mathlib.Core.List.{List, [], ◌∷◌}
use Prim.Native.Nat.{ℕ, ◌+◌, ◌-◌, ◌≤◌, ◌<◌, ◌^◌, min}
use native.Mathlib.Omega.{arith}
use borrow.Author.Tests.{le-leb, lt-leb}
use borrow.Rule.Slice.PartMut.{put_mid, mid_of}
use lib.ListN.{length, set, drop, length-set, length-take, length-drop}
use Rattle.text.specs.Buffer.{put, Places}
use Rattle.text.specs.Result.{ok, error}
use Rattle.text.specs.declared.error.MatError.TheVariants.{OutputTooShort}
use Rattle.text.specs.declared.error.Failure.{Failure}
use Rattle.text.proofs.BufferLaws.{put_front, put_more, length_put, part_put, places_fits}
use Rattle.text.proofs.ByteLaws.{stores}
use Rattle.text.proofs.ReplyLaws.{writes, told_value, told_error}
use Rattle.writer.specs.Array.{Array, string_words, payload, array_of, encode_payload}
use Rattle.writer.specs.Replies.{measured_payload, EncodesPayload}
use Rattle.writer.specs.Spans.{strings_in}
use Rattle.writer.specs.Stages.Payload.{array_in, PayloadFits, StringsFit}
use Rattle.writer.proofs.ArrayLaws.{length_payload, array_is, strings_inside, strings_well_formed}

-- ---- writing: version and number of dimensions, dimensions, strings

module _ {dims text spans : List ℕ} (d : List ℕ) (f : PayloadFits dims text spans (length d)) where
  pub size : 2 + length dims + length (string_words (strings_in text spans)) ≤ length d
  size = omega (arith, f.fits, length_payload (array_in dims text spans))

  heads : set (set d 0 1) 1 (length dims) ≡ put d 0 (1 ∷ length dims ∷ [])
  heads = stores (1 ∷ length dims ∷ []) d 0 (omega (arith, size))

  pub dims_put : {n : ℕ} {d' : List ℕ} → Places (set (set d 0 1) 1 (length dims)) 2 dims n d' → d' ≡ put d 0 (1 ∷ length dims ∷ dims)
  dims_put p =
      (places_fits (set (set d 0 1) 1 (length dims)) 2 dims (simp length-set (omega (arith, size))) p).buffer
      ∙ ap (λ (x : List ℕ). put x 2 dims) heads
      ∙ put_more d 0 (1 ∷ length dims ∷ []) dims 2 refl (omega (arith, size))

  module _ {d' : List ℕ} (e : d' ≡ put d 0 (1 ∷ length dims ∷ dims)) where
    same_length : length d' ≡ length d
    same_length = ap length e ∙ length_put d 0 (1 ∷ length dims ∷ dims) (omega (arith, size))

    pub strings_fit : StringsFit text spans (length (mid_of (2 + length dims) (length d' - (2 + length dims)) d'))
    strings_fit = record {
      inside = λ i h. strings_inside dims text spans f.passed i h;
      well_formed = λ i h. strings_well_formed dims text spans f.passed i h;
      fits =
          omega
          (arith, size, same_length, length-take (length d' - (2 + length dims)) (drop (2 + length dims) d'), length-drop (2 + length dims) d');
    }

    pub payload_put : {w : List ℕ} → w ≡ put (mid_of (2 + length dims) (length d' - (2 + length dims)) d') 0 (string_words (strings_in text spans))
        → put_mid (2 + length dims) (length d' - (2 + length dims)) d' w ≡ put d 0 (payload (array_in dims text spans))
    unfolding payload
    payload_put g =
        part_put d' (string_words (strings_in text spans)) (2 + length dims) (omega (arith, size, same_length)) (record { end = refl; buffer = g })
        ∙ ap (λ (x : List ℕ). put x (2 + length dims) (string_words (strings_in text spans))) e
        ∙ put_more d 0 (1 ∷ length dims ∷ dims) (string_words (strings_in text spans)) (2 + length dims) (omega arith) (omega (arith, size))

-- ---- the public call

-- what measuring said of the array
module _ (dims text spans : List ℕ) where
  pub measured_passed : {n : ℕ} → ok n ≡ measured_payload dims text spans → (array_of dims text spans ≡ ok (array_in dims text spans)) × (length (payload (array_in dims text spans)) ≡ n)
  measured_passed e =
      let t = told_value (λ (a : Array). length (payload a)) (array_of dims text spans) e in
      let k = array_is dims text spans t.1.0 in
      (t.1.0 ∙ ap ok k, ap (λ (a : Array). length (payload a)) (sym k) ∙ t.1.1)

  pub measured_failed : {f : Failure} → error f ≡ measured_payload dims text spans → array_of dims text spans ≡ error f
  measured_failed e = told_error (λ (a : Array). length (payload a)) (array_of dims text spans) e

module _ (dims text spans words : List ℕ) where
  pub encode_refused : {f : Failure} → error f ≡ measured_payload dims text spans → encode_payload dims text spans (length words) ≡ error f
  unfolding encode_payload
  encode_refused e = rw (measured_failed dims text spans e)

  module _ {n : ℕ} (e : ok n ≡ measured_payload dims text spans) where
    pub encode_fits : n ≤ length words → PayloadFits dims text spans (length words)
    encode_fits h = let s = measured_passed dims text spans e in record { passed = s.0; fits = omega arith }

    pub encode_short : n < 2 ^ 64 → length words < n → EncodesPayload dims text spans words (Err (OutputTooShort n)) words
    unfolding encode_payload
    encode_short b h =
        let s = measured_passed dims text spans e in
        let p : min (length (payload (array_in dims text spans))) (2 ^ 64 - 1) ≡ n = omega arith in
        writes (encode_payload dims text spans) words (error (record { number = 34; place = n })) (rw s.0 (simp (lt-leb (length (payload (array_in dims text spans))) (length words) (omega arith), p))) refl refl

    pub encode_written : n ≤ length words → {words' : List ℕ} → words' ≡ put words 0 (payload (array_in dims text spans)) → EncodesPayload dims text spans words (Ok n) words'
    unfolding encode_payload
    encode_written h b =
        let s = measured_passed dims text spans e in
        writes (encode_payload dims text spans) words (ok (payload (array_in dims text spans))) (rw s.0 (simp (le-leb (length (payload (array_in dims text spans))) (length words) (omega arith)))) (ap ok (sym s.1))
        (b ∙ put_front words (payload (array_in dims text spans)))
