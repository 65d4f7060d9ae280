-- The strings of two results, one after the other: their counts, the room for them at a position, and writing them there.
-- Assumes nothing.
use Prim.Native.Nat.{ℕ, ◌+◌, ◌*◌, ◌≤◌}
use mathlib.Core.Path.{◌≡◌, refl, sym, ap, ◌∙◌}
use mathlib.Core.List.{List, [], ◌++◌, append_assoc, append-nil}
use native.Mathlib.Omega.{arith}
use lib.ListN.{length, length-append}
use Rattle.text.specs.Buffer.{put}
use Rattle.text.specs.Result.{Result, ok, error, map_result, ◌>>=◌, values_of}
use Rattle.text.proofs.BufferLaws.{put_more, length_put}
use Rattle.text.proofs.TestLaws.{clash}
use Rattle.writer.specs.Spans.{joined, spans_from}
use Rattle.writer.proofs.LayoutLaws.{joined_append, length_joined, spans_append, length_spans}
use Rattle.reader.specs.Replies.{size_of}
use Rattle.reader.specs.Stages.Saveobj.{FitsAt, WritesAt}
use Rattle.reader.specs.declared.saveobj.DecodedSize.{DecodedSize}
use Rattle.reader.specs.declared.saveobj.Position.{Position}
use Rattle.reader.proofs.saveobj.Payload.{counts_are}

abbrev pub Strings : Type 0
Strings = Result (List (List ℕ))

-- those of the first, and then those of the second
unfoldable pub both : Strings → Strings → Strings
both x y = x >>= (λ a. y >>= (λ b. ok (a ++ b)))

pub both_none : (x : Strings) → both x (ok []) ≡ x
unfolding both
both_none (ok a) = ap ok (append-nil a)
both_none (error f) = refl

pub none_both : (x : Strings) → both (ok []) x ≡ x
unfolding both
none_both (ok a) = refl
none_both (error f) = refl

pub both_assoc : (x y z : Strings) → both x (both y z) ≡ both (both x y) z
unfolding both
both_assoc (ok a) (ok b) (ok d) = ap ok (sym (append_assoc a b d))
both_assoc (ok a) (ok b) (error f) = refl
both_assoc (ok a) (error f) z = refl
both_assoc (error f) y z = refl

pub both_passed : (x y : Strings) {ss : List (List ℕ)} → both x y ≡ ok ss → (x ≡ ok (values_of x)) × (y ≡ ok (values_of y)) × (ss ≡ values_of x ++ values_of y)
unfolding both
both_passed (ok a) (ok b) e = (refl, refl, cc)
both_passed (ok a) (error f) {ss} e = clash cc
both_passed (error f) y {ss} e = clash cc

pub both_counts : (x y : Strings) {s t : DecodedSize} → ok s ≡ map_result size_of x → ok t ≡ map_result size_of y
    → ok (record { bytes = s.bytes + t.bytes; strings = s.strings + t.strings }) ≡ map_result size_of (both x y)
unfolding both
both_counts x y {s} {t} e f =
    let p = counts_are x e in
    let q = counts_are y f in
    let bytes : length (joined (values_of x ++ values_of y)) ≡ s.bytes + t.bytes =
    omega (arith, p.1, q.1, length_joined (values_of x) (values_of y)) in
    let strings : length (values_of x ++ values_of y) ≡ s.strings + t.strings = omega (arith, p.2, q.2, length-append (values_of x) (values_of y)) in
    rw (p.0, q.0) (rw (bytes, strings))

-- ---- what fits at a position, and what is written there

-- the buffers keep their lengths
module _ {x : Strings} {at : Position} {t s : List ℕ} (f : FitsAt x (length t) (length s) at) {next : Position} {t' s' : List ℕ} (w : WritesAt x at t s next t' s') where
  same_text : length t' ≡ length t
  same_text = ap length w.text_after ∙ length_put t at.byte (joined (values_of x)) f.text

  same_spans : length s' ≡ length s
  same_spans =
      let l = length_spans at.byte (values_of x) in
      ap length w.spans_after ∙ length_put s (2 * at.string) (spans_from at.byte (values_of x)) (omega (arith, f.spans))

module _ (x y : Strings) where
  module _ {text_room span_room : ℕ} {at : Position} (f : FitsAt (both x y) text_room span_room at) where
    parts : (x ≡ ok (values_of x)) × (y ≡ ok (values_of y)) × (values_of (both x y) ≡ values_of x ++ values_of y)
    parts = both_passed x y f.passed

    both_text : at.byte + length (joined (values_of x)) + length (joined (values_of y)) ≤ text_room
    both_text =
        omega (arith, f.text, ap (λ (ss : List (List ℕ)). length (joined ss)) parts.2, length_joined (values_of x) (values_of y))

    both_spans : 2 * (at.string + length (values_of x) + length (values_of y)) ≤ span_room
    both_spans = omega (arith, f.spans, ap length parts.2, length-append (values_of x) (values_of y))

    pub fits_first : FitsAt x text_room span_room at
    fits_first = record { passed = parts.0; text = omega (arith, both_text); spans = omega (arith, both_spans) }

  module _ {at : Position} {t s : List ℕ} (f : FitsAt (both x y) (length t) (length s) at) {next : Position} {t' s' : List ℕ} (w : WritesAt x at t s next t' s') where
    pub fits_second : FitsAt y (length t') (length s') next
    fits_second =
        let a = same_text (fits_first f) w in
        let b = same_spans (fits_first f) w in
        record {
          passed = (parts f).1;
          text = omega (arith, a, both_text f, w.end);
          spans = omega (arith, b, both_spans f, w.strings);
        }

    pub writes_both : {last : Position} {t'' s'' : List ℕ} → WritesAt y next t' s' last t'' s'' → WritesAt (both x y) at t s last t'' s''
    writes_both {last} {t''} {s''} v =
        let j = values_of x in
        let k = values_of y in
        let p = length_spans at.byte j in
        let q = length_spans next.byte k in
        let e = (parts f).2 in
        record {
          strings = omega (arith, v.strings, w.strings, ap length e, length-append j k);
          end = omega (arith, v.end, w.end, ap (λ (ss : List (List ℕ)). length (joined ss)) e, length_joined j k);
          text_after =
              rw e
              (v.text_after
              ∙ ap (λ (d : List ℕ). put d next.byte (joined k)) w.text_after
              ∙ put_more t at.byte (joined j) (joined k) next.byte w.end (omega (arith, both_text f, w.end))
              ∙ ap (put t at.byte) (sym (joined_append j k)));
          spans_after =
              rw e
              (v.spans_after
              ∙ ap (λ (d : List ℕ). put d (2 * next.string) (spans_from next.byte k)) w.spans_after
              ∙ put_more s (2 * at.string) (spans_from at.byte j) (spans_from next.byte k) (2 * next.string) (omega (arith, w.strings)) (omega (arith, both_spans f, w.strings))
              ∙ ap (λ (b : ℕ). put s (2 * at.string) (spans_from at.byte j ++ spans_from b k)) w.end
              ∙ ap (put s (2 * at.string)) (sym (spans_append at.byte j k)));
        }
