-- The words of a replacement: the words after the cell moved, the new payload in place, zeros over what is given up.
-- Assumes nothing.
use Prim.Native.Nat.{ℕ, zero, suc, ◌+◌, ◌-◌, ◌≤◌, ◌<◌}
use mathlib.Core.Path.{◌≡◌, refl, sym, ap, ◌∙◌}
use mathlib.Core.List.{List, [], ◌∷◌, ◌++◌, append_assoc, flat_map}
use native.Mathlib.Omega.{arith}
use lib.ListN.{length, get_or, take, drop, set, replicate, length-append, length-take, length-drop, length-replicate, take-append-drop}
use lib.Seq.{paste, take-length, take_all, take_at, drop_at, take-take, take-append-le, drop-drop, length-take-le, set-get_or}
use Rattle.text.specs.Buffer.{put, over}
use Rattle.writer.specs.Array.{Array, no_array, payload, payloads, payload_spans}
use Rattle.writer.specs.Spans.{offset_at, length_at}
use Rattle.writer.proofs.LayoutLaws.{span_offset}
use Rattle.store.specs.Moves.{spliced}
use Rattle.store.proofs.StoreLaws.{span_length}

-- ---- the calls: w1 after the move, w2 with the payload, w3 with the zeros

module _ (w : List ℕ) (u at old : ℕ) (a : List ℕ) {len : ℕ} (long : len ≡ length a) (h : at + old ≤ u) (k : u ≤ length w) (room : u - old + len ≤ length w) where
  abbrev tail : List ℕ
  tail = take (u - (at + old)) (drop (at + old) w)

  abbrev total : ℕ
  total = u - old + len

  spliced_length : length (spliced w u at old a) ≡ total
  spliced_length =
      let n : length tail ≡ u - (at + old) = simp (length-take, length-drop) (omega arith) in
      omega (arith, length-append (take at w ++ a) tail, length-append (take at w) a, length-take-le at w (omega arith))

  module _ {w1 : List ℕ} (e1 : w1 ≡ paste w (at + len) (drop (at + old) w) (u - (at + old))) where
    placed : paste w1 at a (length a) ≡ spliced w u at old a ++ drop total w
    placed =
        let front : List ℕ = take (at + len) w in
        let n : at + len + (u - (at + old)) ≡ total = omega arith in
        let l : length front ≡ at + len = length-take-le (at + len) w (omega arith) in
        let is : w1 ≡ front ++ (tail ++ drop total w) = e1 ∙ rw n (append_assoc front tail (drop total w)) in
        let f : take at w1 ≡ take at w = rw (is, take-append-le at front (tail ++ drop total w) (omega arith)) (take-take at (at + len) w (omega arith)) in
        let g : drop (at + length a) w1 ≡ tail ++ drop total w = rw (is, ← long) (drop_at front (tail ++ drop total w) (at + len) l) in
        rw (f, g, take-length a) (sym (append_assoc (take at w ++ a) tail (drop total w)))

    pasted : {w2 w3 : List ℕ} {z : ℕ} → w2 ≡ paste w1 at a (length a) → z ≡ u - total → w3 ≡ paste w2 total (replicate z 0) z
        → w3 ≡ over (spliced w u at old a ++ replicate (u - length (spliced w u at old a)) 0) w
    pasted {w2} {w3} {z} e2 e e3 =
        let s : List ℕ = spliced w u at old a in
        let n : u - length s ≡ z = omega (arith, spliced_length) in
        let l : length (replicate {A = ℕ} z 0) ≡ z = length-replicate z 0 in
        let m : length (s ++ replicate z 0) ≡ total + z = omega (arith, length-append s (replicate z 0), spliced_length) in
        rw (
          n,
          m,
          e3,
          e2 ∙ placed,
          take_at s (drop total w) total spliced_length,
          take_all {A = ℕ} z (replicate z 0) (omega arith),
          ← drop-drop z total (s ++ drop total w),
          drop_at s (drop total w) total spliced_length,
          drop-drop z total w,
        )

    pub splices : {w2 w3 : List ℕ} {z : ℕ} → w2 ≡ put w1 at a → z ≡ u - total → w3 ≡ paste w2 total (replicate z 0) z
        → w3 ≡ over (spliced w u at old a ++ replicate (u - length (spliced w u at old a)) 0) w
    unfolding put
    splices e2 e e3 = pasted (rw (take-length a) e2) e e3

-- ---- what that is on payloads end to end

-- the payloads, cut at array k
payloads_cut : (xs : List Array) (k : ℕ) (a : Array) → k < length xs → payloads (set xs k a) ≡ payloads (take k xs) ++ payload a ++ payloads (drop (suc k) xs)
unfolding payloads flat_map
payloads_cut [] k a h = absurd (omega arith)
payloads_cut (x ∷ xs) zero a h = refl
payloads_cut (x ∷ xs) (suc k) a h = rw (payloads_cut xs k a (omega arith)) (simp append_assoc)

pub spliced_is : (w : List ℕ) (u : ℕ) (xs : List Array) → take u w ≡ payloads xs → u ≡ length (payloads xs) → (k : ℕ) → k < length xs → (a : Array)
    → {at old : ℕ} → at ≡ offset_at (payload_spans 0 xs) k → old ≡ length_at (payload_spans 0 xs) k → spliced w u at old (payload a) ≡ payloads (set xs k a)
spliced_is w u xs e n k h a {at} {old} i j =
    let p : List ℕ = payloads (take k xs) in
    let q : List ℕ = payload (get_or xs k no_array) in
    let r : List ℕ = payloads (drop (suc k) xs) in
    let s : at ≡ 0 + length p = i ∙ span_offset 0 xs k h in
    let t : old ≡ length q = j ∙ span_length 0 xs k h in
    let l : length (p ++ q) ≡ at + old = omega (arith, length-append p q) in
    let all : payloads xs ≡ p ++ q ++ r = ap payloads (sym (set-get_or xs k no_array)) ∙ payloads_cut xs k (get_or xs k no_array) h in
    let is : w ≡ p ++ q ++ (r ++ drop u w) = sym (take-append-drop u w) ∙ rw (e ∙ all) (append_assoc (p ++ q) r (drop u w)) in
    let m : u - (at + old) ≡ length r = omega (arith, ap length all, length-append (p ++ q) r) in
    let f : take at w ≡ p = ap (take at) (is ∙ append_assoc p q (r ++ drop u w)) ∙ take_at p (q ++ (r ++ drop u w)) at (omega arith) in
    let g : drop (at + old) w ≡ r ++ drop u w = ap (drop (at + old)) is ∙ drop_at (p ++ q) (r ++ drop u w) (at + old) l in
    rw (f, g, m, take_at r (drop u w) (length r) refl) (sym (payloads_cut xs k a h))
