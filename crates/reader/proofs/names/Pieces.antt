-- The pieces of the name heap, and the loops that count and find them.
-- Assumes nothing.
use mathlib.Core.Path.{◌≡◌, refl, sym, ap, ◌∙◌}
use mathlib.Core.Bool.{cond}
use mathlib.Core.List.{List, [], ◌∷◌, ◌++◌, append_assoc, append-nil}
use Prim.Native.Nat.{ℕ, zero, suc, ◌+◌, ◌-◌, ◌≤◌, ◌<◌}
use native.Mathlib.Omega.{arith}
use borrow.Author.Tests.{eq-eqb, ne_eqb, ltb-true, ltb-false, le-leb, lt-leb, leb-true, leb-false}
use lib.Dec.{eqb, leb, ltb, leb-suc-suc}
use lib.ListN.{get_or-eq_default, drop_of_length-le, length, get_or, take, drop, length-append, length-take, length-drop, take-append-drop}
use lib.Seq.{take-suc, take_all, take-take, slice, length-slice, drop-cons, get_or-drop, drop-drop}
use Rattle.std.proofs.lemmas.List.Sums.{count_by-le-length, sum_by-append}
use Rattle.text.specs.Utf8.{before_zero}
use Rattle.text.proofs.utf8.Terminated.{before_none, before_zero_lem, before_more}
use Rattle.text.proofs.TestLaws.{either}
use Rattle.reader.specs.Names.{onto, pieces, heap_of, name_bytes, name_start, length_with_zeros}
use Rattle.reader.specs.Stages.Names.{pieces_from, heap_pieces, zeros, Skips, HasPiece, Running, FirstPiece, PieceBegins, HasName}

length_onto : (x : ℕ) (ps : List (List ℕ)) → 1 ≤ length ps → length (onto x ps) ≡ length ps
length_onto x [] h = absurd (omega arith)
length_onto x (p ∷ ps) h = refl

-- ---- counting zero bytes

zeros_append : (xs ys : List ℕ) → zeros (xs ++ ys) ≡ zeros xs + zeros ys
zeros_append xs ys = sum_by-append (λ x. cond (eqb x 0) 1 0) xs ys

zeros_cons : (x : ℕ) (xs : List ℕ) → zeros (x ∷ xs) ≡ cond (eqb x 0) 1 0 + zeros xs
zeros_cons x xs = omega (arith, zeros_append (x ∷ []) xs)

length_pieces : (xs : List ℕ) → length (pieces xs) ≡ zeros xs + 1
unfolding pieces
length_pieces [] = refl
length_pieces (x ∷ xs) =
    let l = length_pieces xs in
    rw (zeros_cons x xs) (either (eqb x 0) (λ e. simp e (omega arith)) (λ e. simp e (rw (length_onto x (pieces xs) (omega arith)) (omega arith))))

pub pieces_some : (xs : List ℕ) → 1 ≤ length (pieces xs)
pieces_some xs = omega (arith, length_pieces xs)

pub pieces_zero : (x : ℕ) (xs : List ℕ) → x ≡ 0 → pieces (x ∷ xs) ≡ [] ∷ pieces xs
unfolding pieces
pieces_zero x xs e = simp (eq-eqb x 0 e)

pub pieces_byte : (x : ℕ) (xs : List ℕ) → (x ≡ 0 → ⊥) → pieces (x ∷ xs) ≡ onto x (pieces xs)
unfolding pieces
pieces_byte x xs n = simp (ne_eqb x 0 n)

-- two slices that meet are one
pub slice_split : (i j e : ℕ) (b : List ℕ) → i ≤ j → j ≤ e → slice i e b ≡ slice i j b ++ slice j e b
slice_split zero j e b h k = sym (take-append-drop j (take e b)) ∙ ap (λ (x : List ℕ). x ++ slice j e b) (take-take j e b k)
slice_split (suc i) zero e b h k = absurd (omega arith)
slice_split (suc i) (suc j) zero b h k = absurd (omega arith)
slice_split (suc i) (suc j) (suc e) [] h k = refl
slice_split (suc i) (suc j) (suc e) (x ∷ b) h k = slice_split i j e b (omega arith) (omega arith)

-- ---- passing whole blocks

module _ {s : List ℕ} {most : ℕ} where
  module _ {n : ℕ} {rest : List ℕ} (k : Skips s most n rest) where
    pub skip_fits : n + length rest ≤ length s
    skip_fits = omega (arith, ap length k.is, length-append k.passed rest, count_by-le-length (λ x. eqb x 0) k.passed, k.counted)

    pub skip_counts : {m : ℕ} {block : List ℕ} → m ≡ zeros block → block ≡ take 64 rest → n + m ≤ length s
    skip_counts {m} {block} z t = omega (arith, z, count_by-le-length (λ x. eqb x 0) block, ap length t, length-take 64 rest, skip_fits)

    pub skip_turn : {m : ℕ} {block after : List ℕ} → m ≡ zeros block → block ≡ take 64 rest → after ≡ drop 64 rest → n + m ≤ most → Skips s most (n + m) after
    skip_turn {m} {block} {after} z t d h = record {
      few = h;
      passed = k.passed ++ block;
      counted = omega (arith, k.counted, z, zeros_append k.passed block);
      is =
          k.is
          ∙ ap (λ (xs : List ℕ). k.passed ++ xs) (sym (take-append-drop 64 rest))
          ∙ rw (t, d) (sym (append_assoc k.passed (take 64 rest) (drop 64 rest)));
    }

    pub count_last : {i : ℕ} → length rest ≤ i → {m : ℕ} → m ≡ zeros (take i rest) → n + m + 1 ≡ length (pieces s)
    count_last {i} h z = omega (arith, k.counted, z, ap zeros (take_all i rest h), ap zeros k.is, zeros_append k.passed rest, length_pieces s)

-- ---- the pieces further on

onto_later : (x : ℕ) (ps : List (List ℕ)) (j : ℕ) → 1 ≤ length ps → drop (suc j) (onto x ps) ≡ drop (suc j) ps
onto_later x [] j h = absurd (omega arith)
onto_later x (p ∷ ps) j h = refl

-- the pieces that begin after xs
pieces_later : (xs ys : List ℕ) (j : ℕ) → drop (zeros xs + suc j) (pieces (xs ++ ys)) ≡ drop (suc j) (pieces ys)
unfolding pieces
pieces_later [] ys j =
    let z : 0 + suc j ≡ suc j = omega arith in
    rw z
pieces_later (x ∷ xs) ys j =
    let z : 1 + zeros xs + suc j ≡ suc (zeros xs + suc j) = omega arith in
    let y : 0 + zeros xs + suc j ≡ suc (zeros xs + j) = omega arith in
    let w : zeros xs + suc j ≡ suc (zeros xs + j) = omega arith in
    rw (zeros_cons x xs)
    (either (eqb x 0)
    (λ e. simp e (rw z (pieces_later xs ys j)))
    (λ e. simp e (rw y (onto_later x (pieces (xs ++ ys)) (zeros xs + j) (pieces_some (xs ++ ys)) ∙ rw w at (pieces_later xs ys j)))))

pub from_here : (i : ℕ) (b : List ℕ) (e : ℕ) → i ≤ e → pieces_from b e i ≡ pieces (slice i e b)
unfolding pieces_from
from_here i b e h = simp (le-leb i e h)

-- a heap with a piece does not end before byte 40
pub heap_begins : (b : List ℕ) {e : ℕ} → 1 ≤ length (heap_pieces b e) → 40 ≤ e
unfolding pieces_from
heap_begins b {e} h = either (leb 40 e) (λ t. leb-true 40 e t) (λ t. absurd (omega (arith, simp t at h)))

-- ---- where a piece ends

before_at : (s : List ℕ) (i : ℕ) → get_or s i 0 ≡ 0 → before_zero (drop i s) ≡ []
before_at s i z =
    either (ltb i (length s))
    (λ t. rw (drop-cons s i 0 (ltb-true i (length s) t)) (before_zero_lem (get_or s i 0) (drop (suc i) s) z))
    (λ t. rw (drop_of_length-le s (ltb-false i (length s) t)) before_none)

module _ {s : List ℕ} where
  pub run_start : Running s 0
  run_start = record { inside = omega arith; is = refl }

  module _ {i : ℕ} (r : Running s i) where
    pub run_byte : i < length s → (get_or s i 0 ≡ 0 → ⊥) → Running s (i + 1)
    run_byte h z =
        let m : suc i ≡ i + 1 = omega arith in
        let next : Running s (suc i) = record {
          inside = omega arith;
          is =
              r.is
              ∙ ap (λ (xs : List ℕ). take i s ++ before_zero xs) (drop-cons s i 0 h)
              ∙ ap (λ (xs : List ℕ). take i s ++ xs) (before_more (get_or s i 0) (drop (suc i) s) z)
              ∙ sym (append_assoc (take i s) (get_or s i 0 ∷ []) (before_zero (drop (suc i) s)))
              ∙ ap (λ (xs : List ℕ). xs ++ before_zero (drop (suc i) s)) (sym (take-suc s i 0 h));
        } in
        rw m at next

    pub run_zero : get_or s i 0 ≡ 0 → FirstPiece s i
    run_zero z = record { inside = r.inside; is = r.is ∙ ap (λ (xs : List ℕ). take i s ++ xs) (before_at s i z) ∙ append-nil (take i s) }

    pub run_last : length s ≤ i → FirstPiece s (length s)
    run_last h =
        let z : i ≡ length s = omega (arith, r.inside) in
        rw z at (run_zero (get_or-eq_default s 0 h))

-- the first piece, and those after the zero byte that ends it
first_pieces : (s : List ℕ) → let n = length (before_zero s) in pieces s ≡ before_zero s ∷ cond (leb (n + 1) (length s)) (pieces (drop (n + 1) s)) []
unfolding before_zero pieces
first_pieces [] = refl
first_pieces (x ∷ s) =
    let z : suc (length (before_zero s)) + 1 ≡ suc (length (before_zero s) + 1) = omega arith in
    either (eqb x 0)
    (λ t. simp t (simp (le-leb 1 (length (x ∷ s)) (omega arith))))
    (λ t. simp t (rw (z, leb-suc-suc (length (before_zero s) + 1) (length s)) (ap (onto x) (first_pieces s))))

pub pieces_first : {s : List ℕ} {n : ℕ} → FirstPiece s n → pieces s ≡ before_zero s ∷ cond (leb (n + 1) (length s)) (pieces (drop (n + 1) s)) []
pieces_first {s} {n} f =
    let z : n ≡ length (before_zero s) = omega (arith, ap length f.is, length-take n s, f.inside) in
    rw z (first_pieces s)

-- ---- finding a piece

-- s is the heap from piece k on, and the piece that is looked for is index - k further on
pub record Seeking (heap : List ℕ) (index k : ℕ) (s : List ℕ) : Type 0 where
  pub short : length s ≤ length heap
  pub order : k ≤ index
  pub most : index - k < length (pieces s)
  pub rest : drop (index - k) (pieces s) ≡ drop (index - 1) (pieces heap)

module _ {heap : List ℕ} {index : ℕ} where
  pub seek_start : HasPiece heap index → (index ≡ 1 → ⊥) → {n : ℕ} {s : List ℕ} → Skips heap (index - 2) n s → Seeking heap index (n + 1) s
  seek_start p m {n} {s} k =
      let split : pieces heap ≡ pieces (k.passed ++ s) = ap pieces k.is in
      let j : ℕ = index - 2 - n in
      let y : index - (n + 1) ≡ suc j = omega (arith, p.least, k.few) in
      let z : index - 1 ≡ zeros k.passed + suc j = omega (arith, p.least, k.few, k.counted) in
      record {
        short = omega (arith, ap length k.is, length-append k.passed s);
        order = omega (arith, p.least, k.few);
        most = omega (arith, p.most, p.least, k.few, k.counted, ap length split, length_pieces (k.passed ++ s), zeros_append k.passed s, length_pieces s);
        rest = rw (y, z, split) (sym (pieces_later k.passed s j));
      }

  module _ {k : ℕ} {s : List ℕ} (t : Seeking heap index k s) (h : k < index) {n : ℕ} (f : FirstPiece s n) where
    -- a piece further on is not the last, so a zero byte ends the first
    pub seek_ended : n + 1 ≤ length s
    seek_ended =
        either (leb (n + 1) (length s)) (λ u. leb-true (n + 1) (length s) u)
        (λ u. absurd (omega (arith, t.most, ap length (simp u at (pieces_first f)))))

    pub seek_turn : {s' : List ℕ} → s' ≡ drop (n + 1) s → Seeking heap index (k + 1) s'
    seek_turn {s'} e =
        let m : index - k ≡ suc (index - (k + 1)) = omega arith in
        let q : pieces s ≡ before_zero s ∷ pieces s' = rw e (simp (le-leb (n + 1) (length s) seek_ended) at (pieces_first f)) in
        record {
          short = omega (arith, t.short, ap length e, length-drop (n + 1) s);
          order = omega arith;
          most = omega (arith, t.most, ap length q);
          rest = sym (ap (drop (suc (index - (k + 1)))) q) ∙ sym (ap (λ (j : ℕ). drop j (pieces s)) m) ∙ t.rest;
        }

  pub seek_end : {k : ℕ} {s : List ℕ} → Seeking heap index k s → k ≡ index → pieces s ≡ drop (index - 1) (pieces heap)
  seek_end {k} {s} t z =
      let y : index - k ≡ 0 = omega arith in
      rw y at t.rest

-- ---- walking the heap

-- a declared name's bytes are its piece
name_is : (b : List ℕ) {e i : ℕ} → (i ≡ 0 → ⊥) → 40 ≤ e → name_bytes b e i ≡ get_or (heap_pieces b e) (i - 1) []
unfolding name_bytes
name_is b {e} {i} some h = simp (ne_eqb i 0 some) (ap (λ (ps : List (List ℕ)). get_or ps (i - 1) []) (sym (from_here 40 b e h)))

module _ {b : List ℕ} {e : ℕ} where
  module _ {x start : ℕ} (s : PieceBegins b e x start) where
    -- the empty name has no bytes
    pub stand_empty : x ≡ 0 → PieceBegins b e (x + 1) start
    stand_empty z =
        let k : x - 1 ≡ x + 1 - 1 = omega arith in
        record { rest = rw k at s.rest }

    module _ (some : x ≡ 0 → ⊥) (h : x ≤ length (heap_pieces b e)) where
      pub stand_inside : start ≤ e
      unfolding pieces_from
      stand_inside =
          either (leb start e) (λ t. leb-true start e t)
          (λ t. absurd (omega (arith, ap length (simp t at s.rest), length-drop (x - 1) (heap_pieces b e))))

      module _ {rest : List ℕ} (r : rest ≡ slice start e b) where
        from_start : pieces rest ≡ drop (x - 1) (heap_pieces b e)
        from_start = ap pieces r ∙ sym (from_here start b e stand_inside) ∙ s.rest

        pub stand_name : before_zero rest ≡ name_bytes b e x
        stand_name =
            let z : x - 1 + 0 ≡ x - 1 = omega arith in
            sym (ap (λ (ps : List (List ℕ)). get_or ps 0 []) (first_pieces rest))
            ∙ ap (λ (ps : List (List ℕ)). get_or ps 0 []) from_start
            ∙ get_or-drop (x - 1) (heap_pieces b e) 0 []
            ∙ ap (λ (k : ℕ). get_or (heap_pieces b e) k []) z
            ∙ sym (name_is b some (heap_begins b (omega arith)))

        module _ (l : e ≤ length b) {n : ℕ} (f : FirstPiece rest n) where
          here : before_zero rest ∷ pieces_from b e (start + n + 1) ≡ drop (x - 1) (heap_pieces b e)
          unfolding pieces_from
          here =
              let w : length rest ≡ e - start = ap length r ∙ length-slice start e b l in
              let j : start + (n + 1) ≡ start + n + 1 = omega arith in
              let d : drop (n + 1) rest ≡ slice (start + n + 1) e b =
              ap (drop (n + 1)) r ∙ drop-drop (n + 1) start (take e b) ∙ ap (λ (k : ℕ). drop k (take e b)) j in
              either (leb (n + 1) (length rest))
              (λ t. simp (le-leb (start + n + 1) e (omega (arith, w, leb-true (n + 1) (length rest) t)))
              (ap (λ (xs : List ℕ). before_zero rest ∷ pieces xs) (sym d) ∙ sym (simp t at (pieces_first f)) ∙ from_start))
              (λ t. simp (lt-leb (start + n + 1) e (omega (arith, w, leb-false (n + 1) (length rest) t))) (sym (simp t at (pieces_first f)) ∙ from_start))

          pub stand_next : PieceBegins b e (x + 1) (start + n + 1)
          stand_next =
              let z : x - 1 + 1 ≡ x + 1 - 1 = omega arith in
              record { rest = rw z at (ap (drop 1) here ∙ drop-drop 1 (x - 1) (heap_pieces b e)) }

-- ---- a name

module _ {b : List ℕ} {e index : ℕ} (n : HasName b e index) (least : 1 ≤ index) where
  pub named_heap : 40 ≤ e
  named_heap = heap_begins b (omega (arith, n.most))

  pub named_piece : index ≤ length (pieces (heap_of b e))
  named_piece = omega (arith, n.most, ap length (from_here 40 b e named_heap))

-- ---- where a piece begins

lengths_append : (ps qs : List (List ℕ)) → length_with_zeros (ps ++ qs) ≡ length_with_zeros ps + length_with_zeros qs
unfolding length_with_zeros
lengths_append [] qs = omega arith
lengths_append (p ∷ ps) qs = omega (arith, lengths_append ps qs)

lengths_onto : (x : ℕ) (ps : List (List ℕ)) → 1 ≤ length ps → length_with_zeros (onto x ps) ≡ length_with_zeros ps + 1
unfolding length_with_zeros
lengths_onto x [] h = absurd (omega arith)
lengths_onto x (p ∷ ps) h = omega arith

-- the last piece has no zero byte after it
pub lengths_pieces : (xs : List ℕ) → length_with_zeros (pieces xs) ≡ length xs + 1
unfolding length_with_zeros pieces
lengths_pieces [] = refl
lengths_pieces (x ∷ xs) =
    let l = lengths_pieces xs in
    either (eqb x 0) (λ e. simp e (omega arith)) (λ e. simp e (rw (lengths_onto x (pieces xs) (pieces_some xs)) (omega arith)))

pub lengths_at : (ps : List (List ℕ)) (k : ℕ) → k < length ps → length_with_zeros (take k ps) + length (get_or ps k []) + 1 ≤ length_with_zeros ps
unfolding length_with_zeros
lengths_at [] k h = absurd (omega arith)
lengths_at (p ∷ ps) zero h = omega arith
lengths_at (p ∷ ps) (suc k) h = omega (arith, lengths_at ps k (omega arith))

-- a later piece begins later
pub lengths_less : (ps : List (List ℕ)) (j k : ℕ) → j < k → k ≤ length ps → length_with_zeros (take j ps) < length_with_zeros (take k ps)
unfolding length_with_zeros
lengths_less ps j zero h l = absurd (omega arith)
lengths_less [] j (suc k) h l = absurd (omega arith)
lengths_less (p ∷ ps) zero (suc k) h l = omega arith
lengths_less (p ∷ ps) (suc j) (suc k) h l = omega (arith, lengths_less ps j k (omega arith) (omega arith))

-- piece k of xs lies after the pieces before it
abbrev PieceAt : List ℕ → List (List ℕ) → ℕ → Type 0
PieceAt xs ps k = take (length (get_or ps k [])) (drop (length_with_zeros (take k ps)) xs) ≡ get_or ps k []

module _ (x : ℕ) (xs : List ℕ) where
  after_zero : (ps : List (List ℕ)) → ((k : ℕ) → k < length ps → PieceAt xs ps k) → (k : ℕ) → k < length ([] ∷ ps) → PieceAt (x ∷ xs) ([] ∷ ps) k
  unfolding length_with_zeros
  after_zero ps each zero h = refl
  after_zero ps each (suc k) h =
      let z : 0 + 1 + length_with_zeros (take k ps) ≡ suc (length_with_zeros (take k ps)) = omega arith in
      rw z (each k (omega arith))

  in_piece : (ps : List (List ℕ)) → 1 ≤ length ps → ((k : ℕ) → k < length ps → PieceAt xs ps k) → (k : ℕ) → k < length (onto x ps) → PieceAt (x ∷ xs) (onto x ps) k
  unfolding length_with_zeros
  in_piece [] m each k h = absurd (omega arith)
  in_piece (p ∷ ps) m each zero h = ap (λ (q : List ℕ). x ∷ q) (each 0 (omega arith))
  in_piece (p ∷ ps) m each (suc k) h =
      let z : suc (length p) + 1 + length_with_zeros (take k ps) ≡ suc (length p + 1 + length_with_zeros (take k ps)) = omega arith in
      rw z (each (suc k) (omega arith))

pub piece_at : (xs : List ℕ) (k : ℕ) → k < length (pieces xs) → PieceAt xs (pieces xs) k
unfolding pieces length_with_zeros
piece_at [] zero h = refl
piece_at [] (suc k) h = absurd (omega arith)
piece_at (x ∷ xs) k h =
    let each : (k : ℕ) → k < length (pieces xs) → PieceAt xs (pieces xs) k = piece_at xs in
    either (eqb x 0)
    (λ t. simp t (after_zero x xs (pieces xs) each k (simp t at h)))
    (λ t. simp t (in_piece x xs (pieces xs) (pieces_some xs) each k (simp t at h)))

-- the pieces of the rest leave their own length for those before them
module _ (heap rest : List ℕ) (index : ℕ) (s : pieces rest ≡ drop (index - 1) (pieces heap)) where
  pub starts_place : length heap ≡ length_with_zeros (take (index - 1) (pieces heap)) + length rest
  starts_place =
      let ps : List (List ℕ) = pieces heap in
      let k : ℕ = index - 1 in
      let cut = ap length_with_zeros (sym (take-append-drop k ps)) ∙ lengths_append (take k ps) (drop k ps) in
      omega (arith, lengths_pieces heap, cut, ap length_with_zeros s, lengths_pieces rest)

  pub rest_name : before_zero rest ≡ get_or (pieces heap) (index - 1) []
  rest_name =
      let z : index - 1 + 0 ≡ index - 1 = omega arith in
      sym (ap (λ (qs : List (List ℕ)). get_or qs 0 []) (first_pieces rest))
      ∙ ap (λ (qs : List (List ℕ)). get_or qs 0 []) s
      ∙ get_or-drop (index - 1) (pieces heap) 0 []
      ∙ ap (λ (k : ℕ). get_or (pieces heap) k []) z

-- a piece begins at one place only
pub piece_starts : {b : List ℕ} {e index i : ℕ} → e ≤ length b → i ≤ e → PieceBegins b e index i → i ≡ name_start b e index
piece_starts {b} {e} {index} {i} l inside s =
    let all : pieces (slice i e b) ≡ drop (index - 1) (heap_pieces b e) = sym (from_here i b e inside) ∙ s.rest in
    let h : 40 ≤ e = heap_begins b (omega (arith, ap length all, pieces_some (slice i e b), length-drop (index - 1) (heap_pieces b e))) in
    let rest = starts_place (heap_of b e) (slice i e b) index (all ∙ ap (drop (index - 1)) (from_here 40 b e h)) in
    omega (arith, rest, length-slice i e b l, length-slice 40 e b l)

-- the bytes of a stored name, by the heap from its piece on
pub name_found : (b : List ℕ) (e index : ℕ) → (index ≡ 0 → ⊥) → {rest : List ℕ} → pieces rest ≡ drop (index - 1) (pieces (heap_of b e)) → {n : ℕ} → FirstPiece rest n
    → take n rest ≡ name_bytes b e index
unfolding name_bytes
name_found b e index some {rest} s f = sym f.is ∙ rest_name (heap_of b e) rest index s ∙ sym (simp (ne_eqb index 0 some))
