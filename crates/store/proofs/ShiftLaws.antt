-- The directory of a replacement: the loop that shifts the offsets after the cell, and what it comes to on spans end to end.
-- Assumes nothing.
use Prim.Native.Nat.{ℕ, zero, suc, ◌+◌, ◌-◌, ◌*◌, ◌^◌, ◌≤◌, ◌<◌}
use mathlib.Core.Path.{◌≡◌, refl, sym, ap, ◌∙◌}
use mathlib.Core.List.{List, [], ◌∷◌, ◌++◌, append_assoc}
use native.Mathlib.Numerals.{add-one}
use native.Mathlib.Omega.{arith}
use lib.ListN.{length, get_or, take, drop, set, length-append, length-take, length-drop, length-set, take-append-drop}
use lib.Seq.{get_or_at, get_or-set_other, get_or-take, length-take-le, set_at, set-get_or}
use Rattle.text.specs.Buffer.{over}
use Rattle.writer.specs.Array.{Array, no_array, payload, payloads, payload_spans}
use Rattle.writer.specs.Spans.{offset_at, length_at, spans_from}
use Rattle.writer.proofs.LayoutLaws.{length_payload_spans, payloads_within, span_offset}
use Rattle.store.specs.Moves.{shifted, Shiftable}
use Rattle.store.proofs.StoreLaws.{length_payload_nth, length_payloads_set}

-- ---- the loop: what is left to shift of d comes to what was to shift of d₀

pub record Shifting (d₀ : List ℕ) (first n old new : ℕ) (d : List ℕ) (i : ℕ) : Type 0 where
  pub shiftable : Shiftable d i n old new
  pub long : length d ≡ length d₀
  pub so_far : shifted d i (n - i) old new ≡ shifted d₀ first (n - first) old new

module _ (d₀ : List ℕ) (first n old new : ℕ) (d : List ℕ) (i : ℕ) (m : Shifting d₀ first n old new d i) where
  pub shift_after : i < n → old ≤ offset_at d i
  shift_after h = m.shiftable.after i (omega arith) h

  pub shift_fits : i < n → offset_at d i - old + new < 2 ^ 64
  shift_fits h = m.shiftable.fits i (omega arith) h

  pub shift_turn : i < n → Shifting d₀ first n old new (set d (2 * i) (offset_at d i - old + new)) (i + 1)
  unfolding shifted
  shift_turn h =
      let v : ℕ = offset_at d i - old + new in
      let e : n - i ≡ suc (n - suc i) = omega arith in
      let same : (j : ℕ) → i + 1 ≤ j → offset_at (set d (2 * i) v) j ≡ offset_at d j = λ j l. get_or-set_other d (2 * i) (2 * j) v 0 (λ q. absurd (omega arith)) in
      record {
        shiftable = record {
          inside = omega (arith, m.shiftable.inside, length-set d (2 * i) v);
          after = λ j l k. rw (same j l) (m.shiftable.after j (omega arith) k);
          fits = λ j l k. rw (same j l) (m.shiftable.fits j (omega arith) k);
        };
        long = length-set d (2 * i) v ∙ m.long;
        so_far = rw (add-one i) (rw e at m.so_far);
      }

  pub shift_last : n ≤ i → d ≡ shifted d₀ first (n - first) old new
  unfolding shifted
  shift_last h =
      let e : n - i ≡ 0 = omega arith in
      rw e at m.so_far

pub ruleset shifting = (shift_after, shift_fits, shift_turn, shift_last)

-- ---- spans end to end

-- the spans after p
shifts : (old new : ℕ) (xs : List Array) (p rest : List ℕ) (i o : ℕ) → length p ≡ 2 * i
    → shifted (p ++ (payload_spans (o + old) xs ++ rest)) i (length xs) old new ≡ p ++ (payload_spans (o + new) xs ++ rest)
unfolding shifted spans_from
shifts old new [] p rest i o h = refl
shifts old new (x ∷ xs) p rest i o h =
    let n : ℕ = length (payload x) in
    let d : List ℕ = p ++ (o + old) ∷ n ∷ (payload_spans (o + old + n) xs ++ rest) in
    let q : List ℕ = (o + new) ∷ n ∷ [] in
    let v : offset_at d i - old + new ≡ o + new = rw (get_or_at p (o + old) (n ∷ (payload_spans (o + old + n) xs ++ rest)) 0 (2 * i) h) (omega arith) in
    let c : o + old + n ≡ o + n + old = omega arith in
    let e : o + n + new ≡ o + new + n = omega arith in
    let s : set d (2 * i) (offset_at d i - old + new) ≡ p ++ q ++ (payload_spans (o + n + old) xs ++ rest) =
    rw (v, ← c) (set_at p (o + old) (n ∷ (payload_spans (o + old + n) xs ++ rest)) (o + new) (2 * i) h ∙ sym (append_assoc p q (payload_spans (o + old + n) xs ++ rest))) in
    ap (λ (l : List ℕ). shifted l (suc i) (length xs) old new) s
    ∙ shifts old new xs (p ++ q) rest (suc i) (o + n) (omega (arith, length-append p q))
    ∙ rw e (append_assoc p q (payload_spans (o + new + n) xs ++ rest))

-- cut at array k
spans_cut : (o : ℕ) (xs : List Array) (k : ℕ) (a : Array) → k < length xs
    → payload_spans o (set xs k a) ≡ payload_spans o (take k xs) ++ offset_at (payload_spans o xs) k ∷ length (payload a) ∷ payload_spans (offset_at (payload_spans o xs) k + length (payload a)) (drop (suc k) xs)
unfolding spans_from
spans_cut o [] k a h = absurd (omega arith)
spans_cut o (x ∷ xs) zero a h = refl
spans_cut o (x ∷ xs) (suc k) a h =
    let n : 2 * suc k ≡ suc (suc (2 * k)) = omega arith in
    rw n (ap (λ (l : List ℕ). o ∷ length (payload x) ∷ l) (spans_cut (o + length (payload x)) xs k a (omega arith)))

module _ (d : List ℕ) (n : ℕ) (xs : List Array) (e : take (2 * n) d ≡ payload_spans 0 xs) where
  pub counted_offset : (j : ℕ) → j < n → offset_at d j ≡ offset_at (payload_spans 0 xs) j
  counted_offset j h = sym (get_or-take (2 * n) d (2 * j) 0 (omega arith)) ∙ ap (λ (s : List ℕ). offset_at s j) e

  pub counted_length : (j : ℕ) → j < n → length_at d j ≡ length_at (payload_spans 0 xs) j
  counted_length j h = sym (get_or-take (2 * n) d (2 * j + 1) 0 (omega arith)) ∙ ap (λ (s : List ℕ). length_at s j) e

  module _ (many : n ≡ length xs) (k : ℕ) (h : k < n) (a : Array) {old new : ℕ} (was : old ≡ length (payload (get_or xs k no_array))) (is : new ≡ length (payload a)) where
    pub shifted_is : shifted (set d (2 * k + 1) new) (k + 1) (n - (k + 1)) old new ≡ over (payload_spans 0 (set xs k a)) d
    shifted_is =
        let at : ℕ = offset_at (payload_spans 0 xs) k in
        let p : List ℕ = payload_spans 0 (take k xs) in
        let back : List Array = drop (suc k) xs in
        let rest : List ℕ = drop (2 * n) d in
        let tail : List ℕ = payload_spans (at + old) back ++ rest in
        let l : length p ≡ 2 * k = length_payload_spans 0 (take k xs) ∙ ap (λ (m : ℕ). 2 * m) (length-take-le k xs (omega arith)) in
        let all : payload_spans 0 xs ≡ p ++ at ∷ old ∷ payload_spans (at + old) back =
        ap (payload_spans 0) (sym (set-get_or xs k no_array)) ∙ rw was (spans_cut 0 xs k (get_or xs k no_array) (omega arith)) in
        let cut : d ≡ p ++ at ∷ [] ++ old ∷ tail = sym (take-append-drop (2 * n) d) ∙ rw (e ∙ all) (simp append_assoc) in
        let s : set d (2 * k + 1) new ≡ p ++ at ∷ new ∷ [] ++ tail =
        ap (λ (r : List ℕ). set r (2 * k + 1) new) cut
        ∙ set_at (p ++ at ∷ []) old tail new (2 * k + 1) (omega (arith, length-append p (at ∷ [])))
        ∙ simp append_assoc in
        let m : n - (k + 1) ≡ length back = omega (arith, length-drop (suc k) xs) in
        let z : length (payload_spans 0 (set xs k a)) ≡ 2 * n = omega (arith, length_payload_spans 0 (set xs k a), length-set xs k a) in
        rw (s, m, z, spans_cut 0 xs k a (omega arith), ← is)
        (shifts old new back (p ++ at ∷ new ∷ []) rest (k + 1) at (omega (arith, length-append p (at ∷ new ∷ []))) ∙ simp append_assoc)

    pub shiftable : length (payloads (set xs k a)) < 2 ^ 64 → Shiftable (set d (2 * k + 1) new) (k + 1) n old new
    shiftable small =
        let offset : (j : ℕ) → j < n → offset_at (set d (2 * k + 1) new) j ≡ length (payloads (take j xs)) =
        λ j l. get_or-set_other d (2 * k + 1) (2 * j) new 0 (λ q. absurd (omega arith)) ∙ counted_offset j l ∙ span_offset 0 xs j (omega arith) ∙ omega arith in
        record {
          inside = omega (arith, ap length e, length-take (2 * n) d, length_payload_spans 0 xs, length-set d (2 * k + 1) new);
          after = λ j b l. rw (offset j l, was, ← get_or-take j xs k no_array (omega arith)) (length_payload_nth (take j xs) k (omega (arith, length-take j xs)));
          fits = λ j b l. rw (offset j l) (omega (arith, payloads_within xs j, length_payloads_set xs k a (omega arith), length_payload_nth xs k (omega arith)));
        }
