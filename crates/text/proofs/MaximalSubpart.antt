-- A step of decoding finds what the Standard says: a scalar value's own sequence, or the maximal subpart of an ill-formed subsequence.
-- Assumes nothing.
use mathlib.Core.Path.{◌≡◌, refl, ◌∙◌, sym, ap}
use mathlib.Core.Bool.{Bool, true, false, cond, ◌&&◌}
use mathlib.Core.List.{List, [], ◌∷◌, ◌++◌, append_assoc, append-nil}
use Prim.Native.Nat.{ℕ, suc, ◌+◌, ◌-◌, ◌≤◌, ◌<◌, max}
use native.Mathlib.Omega.{arith}
use borrow.Author.Tests.{lt-ltb, eq-eqb, leb-true, leb-false, eqb-true, eqb-false}
use lib.Dec.{ltb, leb, eqb}
use lib.ListN.{length, get_or, take, drop, length-append, length-drop, take-append-drop, get_or-append}
use lib.Seq.{slice, slice-cons, slice_empty, length-slice, length-take-le, take-take, take_at, drop_at, take-append-add, get_or-take}
use Rattle.text.specs.declared.utf8.Step.TheVariants.{Scalar, IllFormed}
use Rattle.text.specs.Unicode.{is_scalar, utf8}
use Rattle.text.specs.Utf8.{sequence_length, second_range, has_in, matched, whole_at, next_at, step_at, Initial, MaximalSubpart}
use Rattle.text.proofs.LeadLaws.{starts_byte, lead_range, Second, second_is, Spells, spells_3, spells_4}
use Rattle.text.proofs.PartLaws.{Breaks, step_reads, step_breaks}
use Rattle.text.proofs.ScalarLaws.{scalar_is, is_scalar_lem, lengths}
use Rattle.text.proofs.StepLaws.{length_le}
use Rattle.text.proofs.TestLaws.{not_both, equal_or}
use Rattle.text.proofs.Utf8Laws.{step_utf8, step_took, has_is}

-- the count of `matched` by its tests, in their order: short, second, two, third, three, fourth
abbrev counted : ℕ → Bool → Bool → Bool → Bool → Bool → Bool → ℕ
counted n t h u j v k = cond t n (cond h (cond u 2 (cond j (cond v 3 (cond k 4 3)) 2)) 1)

-- ---- what stands at i

-- what a step reads as a scalar value is that value's sequence
pub scalar_sequence : (s : List ℕ) (i v next : ℕ) → step_at s i ≡ Scalar v next → (is_scalar v ≡ true) × (slice i next s ≡ utf8 v)
scalar_sequence s i v next e =
    let r = step_reads s i e in
    let a = r.advance in
    let k = step_took s i v next r in
    let p : length (take i s) ≡ i = length-take-le i s (omega (arith, a)) in
    let w : s ≡ take i s ++ (utf8 v ++ drop next s) = sym (take-append-drop i s) ∙ ap (λ (d : List ℕ). take i s ++ d) k.rest in
    let n : length (drop i s) ≡ length (utf8 v) + length (drop next s) = ap length k.rest ∙ length-append (utf8 v) (drop next s) in
    let m : next ≡ length (take i s) + length (utf8 v) = omega (arith, a, length-drop i s, length-drop next s) in
    (is_scalar_lem k.scalar, slice_at (take i s) (utf8 v) (drop next s) s i next w p m)
  where
    slice_at : (p w q s : List ℕ) (i e : ℕ) → s ≡ p ++ (w ++ q) → length p ≡ i → e ≡ length p + length w → slice i e s ≡ w
    slice_at p w q s i e es ei ee =
        rw (es, ee, take-append-add p (w ++ q) (length w), take_at w q (length w) refl) (drop_at p w i ei)

-- bytes of s from i up to e, with r after them, that are those of a scalar value are a whole row
whole_here : (s : List ℕ) (i e v : ℕ) (r q : List ℕ) → i ≤ e → e ≤ length s → is_scalar v ≡ true → slice i e s ++ r ≡ utf8 v ++ q
    → whole_at (take e s ++ r) i ≡ true
whole_here s i e v r q h l sc w =
    let c : take i s ++ slice i e s ≡ take e s = ap (λ (d : List ℕ). d ++ slice i e s) (sym (take-take i e s h)) ∙ take-append-drop i (take e s) in
    by (take i s) (take e s ++ r) (length-take-le i s (omega arith))
    (ap (λ (d : List ℕ). d ++ r) (sym c) ∙ append_assoc (take i s) (slice i e s) r ∙ ap (λ (d : List ℕ). take i s ++ d) w)
  where
    by : (p t : List ℕ) → length p ≡ i → t ≡ p ++ (utf8 v ++ q) → whole_at t i ≡ true
    by p t ei et = rw (et, ← ei) (step_reads (p ++ (utf8 v ++ q)) (length p) (step_utf8 p q v (scalar_is v sc))).whole

-- ---- a step that ends before e sees no byte from e on

count_same : (e n : ℕ) (t h u j v k h' j' k' : Bool) → (1 < e → h' ≡ h) → (2 < e → j' ≡ j) → (3 < e → k' ≡ k) → max 1 (counted n t h u j v k) < e
    → counted n t h' u j' v k' ≡ counted n t h u j v k
count_same e n true h u j v k h' j' k' p q r l = refl
count_same e n false false u j v k h' j' k' p q r l = rw (p (omega arith))
count_same e n false true true j v k h' j' k' p q r l = rw (p (omega arith))
count_same e n false true false false v k h' j' k' p q r l = rw (p (omega arith), q (omega arith))
count_same e n false true false true true k h' j' k' p q r l = rw (p (omega arith), q (omega arith))
count_same e n false true false true false true h' j' k' p q r l = rw (p (omega arith), q (omega arith), r (omega arith))
count_same e n false true false true false false h' j' k' p q r l = rw (p (omega arith), q (omega arith), r (omega arith))

module _ (s r : List ℕ) (i e : ℕ) (l : e ≤ length s) where
  byte_same : (j : ℕ) → j < e → get_or (take e s ++ r) j 0 ≡ get_or s j 0
  byte_same j h = get_or-append (take e s) r 0 j (omega (arith, length-take-le e s l)) ∙ get_or-take e s j 0 h

  has_same : (j lo hi : ℕ) → j < e → has_in (take e s ++ r) j lo hi ≡ has_in s j lo hi
  unfolding has_in
  has_same j lo hi h =
      let t : j < length (take e s ++ r) = omega (arith, length-append (take e s) r, length-take-le e s l) in
      simp (byte_same j h, lt-ltb _ _ t, lt-ltb j (length s) (omega arith))

  whole_same : next_at s i < e → whole_at (take e s ++ r) i ≡ whole_at s i
  unfolding whole_at next_at matched
  whole_same h =
      let n : ℕ = sequence_length (get_or s i 0) in
      rw (byte_same i (omega arith))
      (ap (λ (m : ℕ). ltb 0 n && eqb m n)
      (count_same (e - i) n (leb n 1) _ (eqb n 2) _ (eqb n 3) _ _ _ _ (λ k. has_same (i + 1) (second_range (get_or s i 0)).low (second_range (get_or s i 0)).high (omega arith)) (λ k. has_same (i + 2) 0x80 0xBF (omega arith)) (λ k. has_same (i + 3) 0x80 0xBF (omega arith)) (omega arith)))

-- ---- a part that is longer than one byte begins a sequence

-- a count above one that is not the whole row, by the tests that passed
begun_by : {P : Type 0} (n : ℕ) (t h u j v k : Bool) → leb n 1 ≡ t → eqb n 2 ≡ u → eqb n 3 ≡ v → n ≤ 4 → (m : ℕ) → m ≡ counted n t h u j v k → 1 < m → (m ≡ n → ⊥)
    → (m ≡ 2 → h ≡ true → 2 < n → P) → (m ≡ 3 → h ≡ true → j ≡ true → n ≡ 4 → P) → P
begun_by n true h u j v k et eu ev le m e l w f g = absurd (omega (arith, leb-true n 1 et))
begun_by n false false u j v k et eu ev le m e l w f g = absurd (omega arith)
begun_by n false true true j v k et eu ev le m e l w f g = absurd (w (e ∙ sym (eqb-true n 2 eu)))
begun_by n false true false false v k et eu ev le m e l w f g = f e refl (omega (arith, leb-false n 1 et, eqb-false n 2 eu))
begun_by n false true false true true k et eu ev le m e l w f g = absurd (w (e ∙ sym (eqb-true n 3 ev)))
begun_by n false true false true false true et eu ev le m e l w f g = absurd (omega (arith, leb-false n 1 et, eqb-false n 2 eu, eqb-false n 3 ev))
begun_by n false true false true false false et eu ev le m e l w f g = g e refl refl (omega (arith, leb-false n 1 et, eqb-false n 2 eu, eqb-false n 3 ev))

begins : {v : ℕ} {x : List ℕ} → Spells v x → (w r : List ℕ) → x ≡ w ++ r → Initial w
begins {v} p w r e = record { scalar = v; rest = r; is_scalar_lem = is_scalar_lem p.scalar; is_prefix = p.bytes ∙ e }

-- the bytes 80 complete what begins a row
module _ (a b : ℕ) (small : a < 256) (second : Second a b) where
  begins_3 : 3 ≡ sequence_length a → Initial (a ∷ b ∷ [])
  begins_3 n =
      let l = lead_range a small 3 n (omega arith) in
      begins (spells_3 _ a b 0x80 refl l.from l.to second (omega arith) (omega arith)) (a ∷ b ∷ []) (0x80 ∷ []) refl

  begins_4 : 4 ≡ sequence_length a → (c : ℕ) → 0x80 ≤ c → c ≤ 0xBF → (w r : List ℕ) → a ∷ b ∷ c ∷ 0x80 ∷ [] ≡ w ++ r → Initial w
  begins_4 n c from to =
      let l = lead_range a small 4 n (omega arith) in
      begins (spells_4 _ a b c 0x80 refl l.from l.to second from to (omega arith) (omega arith))

slice_next : (s : List ℕ) (i j e : ℕ) → j ≡ suc i → j ≤ e → e ≤ length s → slice i e s ≡ get_or s i 0 ∷ slice j e s
slice_next s i j e k h l = rw k (slice-cons i e s 0 (omega arith) l)

slice_two : (s : List ℕ) (i e : ℕ) → i + 2 ≤ e → e ≤ length s → slice i e s ≡ get_or s i 0 ∷ get_or s (i + 1) 0 ∷ slice (i + 2) e s
slice_two s i e h l = rw (slice_next s i (i + 1) e (omega arith) (omega arith) l, slice_next s (i + 1) (i + 2) e (omega arith) h l)

module _ (s : List ℕ) (i : ℕ) (h : has_in s (i + 1) (second_range (get_or s i 0)).low (second_range (get_or s i 0)).high ≡ true) where
  second : get_or s i 0 < 256 → Second (get_or s i 0) (get_or s (i + 1) 0)
  second small = let q = has_is s (i + 1) _ _ h in second_is (get_or s i 0) (get_or s (i + 1) 0) small q.1 q.2

  begun_2 : 2 < sequence_length (get_or s i 0) → Initial (slice i (i + 2) s)
  begun_2 n =
      let q = (has_is s (i + 1) _ _ h).0 in
      let small : get_or s i 0 < 256 = starts_byte (get_or s i 0) (omega arith) in
      rw (slice_two s i (i + 2) (omega arith) (omega arith), slice_empty (i + 2) s)
      (equal_or (sequence_length (get_or s i 0)) 3 (λ k. begins_3 _ _ small (second small) (sym k))
      (λ k. begins_4 _ _ small (second small) (omega (arith, length_le (get_or s i 0))) 0x80 (omega arith) (omega arith) _ (0x80 ∷ 0x80 ∷ []) refl))

  begun_3 : has_in s (i + 2) 0x80 0xBF ≡ true → sequence_length (get_or s i 0) ≡ 4 → Initial (slice i (i + 3) s)
  begun_3 j n =
      let q = has_is s (i + 2) 0x80 0xBF j in
      let small : get_or s i 0 < 256 = starts_byte (get_or s i 0) (omega arith) in
      rw (slice_two s i (i + 3) (omega arith) (omega arith), slice_next s (i + 2) (i + 3) (i + 3) (omega arith) (omega arith) (omega arith), slice_empty (i + 3) s)
      (begins_4 _ _ small (second small) (sym n) (get_or s (i + 2) 0) q.1 q.2 _ (0x80 ∷ []) refl)

-- ---- the maximal subpart

module _ (s : List ℕ) (i next : ℕ) (b : Breaks s i next) where
  not_all : 0 < sequence_length (get_or s i 0) → matched s i ≡ sequence_length (get_or s i 0) → ⊥
  unfolding whole_at
  not_all p e = not_both (simp (lt-ltb _ _ p, eq-eqb _ _ e)) b.not_whole

  part_begins : i + 1 < next → Initial (slice i next s)
  unfolding matched next_at
  part_begins h =
      let n : ℕ = sequence_length (get_or s i 0) in
      let k : next ≡ i + max 1 (matched s i) = b.advance.next_is in
      begun_by n (leb n 1) _ (eqb n 2) (has_in s (i + 2) 0x80 0xBF) (eqb n 3) (has_in s (i + 3) 0x80 0xBF) refl refl refl (length_le (get_or s i 0)) (matched s i) refl (omega arith)
      (λ e. not_all (omega arith) e)
      (λ e y l. let m : next ≡ i + 2 = omega arith in rw m (begun_2 s i y l))
      (λ e y j l. let m : next ≡ i + 3 = omega arith in rw m (begun_3 s i y j l))

  maximal : MaximalSubpart s i next
  maximal =
      let a = b.advance in
      record {
        here = (a.on, a.inside);
        unconvertible = λ v e sc l w.
            let n : e - i ≡ length (utf8 v) = sym (length-slice i e s l) ∙ ap length w in
            let h : i ≤ e = omega (arith, lengths v) in
            not_both (rw (take-append-drop e s) at (whole_here s i e v (drop e s) (drop e s) h l sc (ap (λ (d : List ℕ). d ++ drop e s) w))) b.not_whole;
        starts = part_begins;
        longest = λ e h l x.
            not_both (whole_here s i e x.scalar x.rest [] (omega (arith, a)) l x.is_scalar_lem (sym x.is_prefix ∙ sym (append-nil (utf8 x.scalar))))
            (whole_same s x.rest i e l (omega (arith, a)) ∙ b.not_whole);
      }

-- what an ill-formed step skips is the Standard's maximal subpart
pub ill_formed_maximal : (s : List ℕ) (i next : ℕ) → step_at s i ≡ IllFormed next → MaximalSubpart s i next
ill_formed_maximal s i next e = maximal s i next (step_breaks s i e)
