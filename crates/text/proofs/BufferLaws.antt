-- The laws of `put` and `over`, and of a loop that writes a text to the start of a buffer, piece by piece.
-- Assumes nothing.
use mathlib.Core.Path.{◌≡◌, refl, ◌∙◌, sym, ap, ap₂}
use mathlib.Core.List.{List, [], ◌∷◌, ◌++◌, append_assoc, append-nil}
use Prim.Native.Nat.{ℕ, suc, ◌+◌, ◌-◌, ◌≤◌, ◌<◌}
use native.Mathlib.Nat.{add-zero, zero-add}
use native.Mathlib.Omega.{arith}
use borrow.Author.Tests.{le-leb, lt-leb, leb-true, leb-false}
use borrow.Rule.Slice.PartMut.{mid_of, put_mid}
use lib.Dec.{leb}
use lib.ListN.{length, take, drop, set, length-append, length-take, length-drop, take-append-drop}
use lib.Seq.{length-take-le, take_all, take_at, drop_at, drop-length, set_at, drop-cons, drop-drop, append_snoc}
use Rattle.text.specs.Buffer.{over, put, Puts, placed, placed_end, Places}
use Rattle.text.proofs.TestLaws.{either}

pub put_none : {A : Type 0} (d : List A) (at : ℕ) → put d at [] ≡ d
unfolding put
put_none d at = simp (append-nil, add-zero) (take-append-drop at d)

pub put_front : (d w : List ℕ) → put d 0 w ≡ over w d
unfolding put
put_front d w = simp zero-add

put_is : (d : List ℕ) (at : ℕ) (w : List ℕ) → put d at w ≡ take at d ++ w ++ drop (at + length w) d
unfolding put
put_is d at w = refl

-- what is put behind a front lies over the buffer with it
pub put_over : (d : List ℕ) (i : ℕ) (front w : List ℕ) → i ≤ length d → take i d ≡ front → put d i w ≡ over (front ++ w) d
unfolding put
put_over d i front w h e =
    let n : length (front ++ w) ≡ i + length w = omega (arith, length-append front w, ap length e, length-take i d) in
    rw (n, e)

pub length_over : {A : Type 0} (new old : List A) → length new ≤ length old → length (over new old) ≡ length old
length_over new old h = omega (arith, length-append new (drop (length new) old), length-drop (length new) old)

-- what stands at the front already lies over the buffer
pub kept_over : (d front : List ℕ) (n : ℕ) → take n d ≡ front → length front ≡ n → d ≡ over front d
kept_over d front n e l = sym (take-append-drop n d) ∙ rw (l, e)

module _ {A : Type 0} (d : List A) (at : ℕ) (w : List A) (room : at + length w ≤ length d) where
  head_length : length (take at d ++ w) ≡ at + length w
  head_length =
      let a : at ≤ length d = omega arith in
      simp (length-append, length-take-le at d)

  pub length_put : length (put d at w) ≡ length d
  unfolding put
  length_put = omega (arith, length-append (take at d ++ w) (drop (at + length w) d), head_length, length-drop (at + length w) d)

  pub take_put : take (at + length w) (put d at w) ≡ take at d ++ w
  unfolding put
  take_put = take_at (take at d ++ w) _ _ head_length

  drop_put : drop (at + length w) (put d at w) ≡ drop (at + length w) d
  unfolding put
  drop_put = drop_at (take at d ++ w) _ _ head_length

-- one element more
pub put_one : {A : Type 0} (d : List A) (at : ℕ) (w : List A) (x : A) → at + length w < length d → set (put d at w) (at + length w) x ≡ put d at (w ++ x ∷ [])
unfolding put
put_one {A} d at w x h =
    let p : List A = take at d ++ w in
    let rest : List A = drop (suc (at + length w)) d in
    let n : suc (at + length w) ≡ at + length (w ++ x ∷ []) = omega (arith, length-append w (x ∷ [])) in
    ap (λ (r : List A). set (p ++ r) (at + length w) x) (drop-cons d (at + length w) x h)
    ∙ set_at p _ rest x (at + length w) (head_length d at w (omega arith))
    ∙ sym (append_snoc p x rest)
    ∙ ap (λ (r : List A). r ++ rest) (append_assoc (take at d) w (x ∷ []))
    ∙ ap (λ (k : ℕ). take at d ++ (w ++ x ∷ []) ++ drop k d) n

-- another list after it
pub put_more : (d : List ℕ) (at : ℕ) (w x : List ℕ) (o : ℕ) → o ≡ at + length w → o + length x ≤ length d → put (put d at w) o x ≡ put d at (w ++ x)
put_more d at w x o e h =
    let r : at + length w ≤ length d = omega arith in
    let n : at + length w + length x ≡ at + length (w ++ x) = omega (arith, length-append w x) in
    let t : take (at + length w) (put d at w) ≡ take at d ++ w = take_put d at w r in
    let k : drop (at + length w + length x) (put d at w) ≡ drop (at + length w + length x) d =
    sym (drop-drop (length x) (at + length w) (put d at w)) ∙ ap (drop (length x)) (drop_put d at w r) ∙ drop-drop (length x) (at + length w) d in
    rw e (put_is (put d at w) (at + length w) x
    ∙ ap₂ (λ (p q : List ℕ). p ++ x ++ q) t k
    ∙ ap (λ (p : List ℕ). p ++ drop (at + length w + length x) d) (append_assoc (take at d) w x)
    ∙ ap (λ (i : ℕ). take at d ++ (w ++ x) ++ drop i d) n
    ∙ sym (put_is d at (w ++ x)))

-- a text at the start of the part of a buffer from an index on
pub part_put : (d w : List ℕ) (at : ℕ) {n : ℕ} {part' : List ℕ} → at + length w ≤ length d → Puts (mid_of at (length d - at) d) 0 w n part'
    → put_mid at (length d - at) d part' ≡ put d at w
unfolding put
part_put d w at {part' = part'} h p =
    let k : ℕ = length d - at in
    let all : mid_of at k d ≡ drop at d = take_all k (drop at d) (omega (arith, length-drop at d)) in
    let end : at + k ≡ length d = omega arith in
    let none : drop k (drop at d) ≡ [] = drop-drop k at d ∙ rw end (drop-length d) in
    let e : part' ≡ over w (mid_of at k d) = p.buffer ∙ put_front (mid_of at k d) w in
    rw (none, append-nil part', e, all, drop-drop (length w) at d) (sym (append_assoc (take at d) w (drop (at + length w) d)))

-- ---- A loop that writes the text `all` to the start of a buffer: d₀ is the buffer as it was, d as it is, o how many bytes are written, and rest what is still to write
pub record SoFar (all rest d₀ d : List ℕ) (o : ℕ) : Type 0 where
  pub whole : take o d ++ rest ≡ all
  pub beyond : drop o d ≡ drop o d₀
  pub same : length d ≡ length d₀
  pub count : o + length rest ≡ length all

pub begins : (all d₀ : List ℕ) → SoFar all all d₀ d₀ 0
begins all d₀ = record { whole = refl; beyond = refl; same = refl; count = omega arith }

-- w is the next piece of rest, and next what follows it. A record, so that antt finds the three lists from a proof of it: it finds none under `++`
pub record Splits (rest w next : List ℕ) : Type 0 where
  pub is : rest ≡ w ++ next

module _ {all rest w next d₀ d : List ℕ} {o : ℕ} (room : length all ≤ length d₀) (p : Splits rest w next) (f : SoFar all rest d₀ d o) where
  -- there is room for the next piece
  pub fits_next : o + length w ≤ length d
  fits_next = omega (arith, ap length p.is, length-append w next)

  -- the next piece is written
  pub goes_on : (d' : List ℕ) (o' : ℕ) → d' ≡ put d o w → o' ≡ o + length w → SoFar all next d₀ d' o'
  goes_on d' o' e n =
      let h : o + length w ≤ length d = fits_next in
      rw (e, n)
      (record {
        whole =
            ap (λ (r : List ℕ). r ++ next) (take_put d o w h)
            ∙ append_assoc (take o d) w next
            ∙ ap (λ (r : List ℕ). take o d ++ r) (sym p.is)
            ∙ f.whole;
        beyond =
            drop_put d o w h
            ∙ sym (drop-drop (length w) o d)
            ∙ ap (drop (length w)) f.beyond
            ∙ drop-drop (length w) o d₀;
        same = length_put d o w h ∙ f.same;
        count = omega (arith, ap length p.is, length-append w next);
      })

-- all is written
pub ends : (all d₀ d : List ℕ) (o : ℕ) → SoFar all [] d₀ d o → d ≡ over all d₀
ends all d₀ d o f =
    let n : o ≡ length all = omega arith in
    sym (take-append-drop o d)
    ∙ ap (λ (r : List ℕ). r ++ drop o d) (sym (append-nil (take o d)) ∙ f.whole)
    ∙ ap (λ (r : List ℕ). all ++ r) f.beyond
    ∙ ap (λ (k : ℕ). all ++ drop k d₀) n

-- ---- a list written where it fits

module _ {A : Type 0} (d : List A) (i : ℕ) (w : List A) where
  pub placed_not : length d < i + length w → Places d i w i d
  unfolding placed placed_end
  placed_not h = record { end = simp (lt-leb (i + length w) (length d) h); buffer = simp (lt-leb (i + length w) (length d) h) }

  pub placed_past : length d < i → Places d i w i d
  placed_past h = placed_not (omega arith)

  pub placed_whole : i + length w ≤ length d → {e : ℕ} {d' : List A} → Puts d i w e d' → Places d i w e d'
  unfolding placed placed_end
  placed_whole h p = record { end = simp (le-leb (i + length w) (length d) h) p.end; buffer = simp (le-leb (i + length w) (length d) h) p.buffer }

  pub places_fits : i + length w ≤ length d → {e : ℕ} {d' : List A} → Places d i w e d' → Puts d i w e d'
  unfolding placed placed_end
  places_fits h p = record {
    end = simp (le-leb (i + length w) (length d) h) at p.end;
    buffer = simp (le-leb (i + length w) (length d) h) at p.buffer;
  }

pub places_front : (d w : List ℕ) → length w ≤ length d → {e : ℕ} {d' : List ℕ} → Places d 0 w e d' → d' ≡ put d 0 w
places_front d w h p = (places_fits d 0 w (omega arith) p).buffer

pub placed_nothing : (d : List ℕ) (i : ℕ) → Places d i [] i d
placed_nothing d i =
    either (leb (i + 0) (length d)) (λ e. placed_whole d i [] (leb-true _ _ e) (record { end = omega arith; buffer = sym (put_none d i) }))
    (λ e. placed_not d i [] (leb-false _ _ e))

-- ---- the same from an index on: what stands before it is the part that is written already

module _ (d w : List ℕ) (at : ℕ) (room : at + length w ≤ length d) where
  length_from : length (take at d ++ w) ≡ at + length w
  length_from = omega (arith, length-append (take at d) w, length-take-le at d (omega arith))

  pub fits_from : length (take at d ++ w) ≤ length d
  fits_from = omega (arith, length_from)

  pub begins_from : SoFar (take at d ++ w) w d d at
  begins_from = record { whole = refl; beyond = refl; same = refl; count = omega (arith, length_from) }

  pub ends_from : {d' : List ℕ} {o : ℕ} → SoFar (take at d ++ w) [] d d' o → Puts d at w o d'
  unfolding put
  ends_from {d'} {o} f = record {
    end = omega (arith, f.count, length_from);
    buffer = ends (take at d ++ w) d d' o f ∙ ap (λ (k : ℕ). take at d ++ w ++ drop k d) length_from;
  }
