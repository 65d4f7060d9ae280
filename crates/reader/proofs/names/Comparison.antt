-- Comparing a piece of the name heap with a text: by `==`, and while its end is looked for.
-- Assumes nothing.
use mathlib.Core.Path.{◌≡◌, refl, sym, ap, ap₂, ◌∙◌}
use mathlib.Core.Bool.{Bool, false, ◌&&◌}
use mathlib.Core.List.{List, [], ◌∷◌, ◌++◌}
use Prim.Native.Nat.{ℕ, suc, ◌+◌, ◌≤◌, ◌<◌}
use native.Mathlib.Omega.{arith}
use borrow.Author.Tests.{eq-eqb, eqb-true, eqb-false}
use lib.Dec.{eqb}
use lib.ListN.{length, get_or, take, length-take, get_or-eq_default}
use lib.Pointwise.{pointwise}
use lib.Seq.{slice, get_or-take, take-suc, take_all}
use Rattle.text.specs.Buffer.{same}
use Rattle.text.specs.Utf8.{before_zero}
use Rattle.text.proofs.SameLaws.{same_refl, same_not, same_empty}
use Rattle.text.proofs.TestLaws.{either}
use Rattle.reader.specs.Names.{name_bytes}
use Rattle.reader.specs.Stages.Names.{heap_pieces, Running, FirstPiece, ComparesPiece, PieceBegins}
use Rattle.reader.specs.declared.names.Compared.{Compared}
use Rattle.reader.proofs.names.Pieces.{run_start, run_byte, run_zero, stand_name}

-- what `==` answers
pub compared : (xs ys : List ℕ) → pointwise eqb xs ys ≡ same xs ys
unfolding same
compared [] [] = refl
compared [] (y ∷ ys) = refl
compared (x ∷ xs) [] = refl
compared (x ∷ xs) (y ∷ ys) = ap (λ (t : Bool). eqb x y && t) (compared xs ys)

-- ---- while its end is looked for

-- a piece of another length than wanted
other_length : {s : List ℕ} (wanted : List ℕ) {j : ℕ} → FirstPiece s j → (j ≡ length wanted → ⊥) → false ≡ same (before_zero s) wanted
other_length {s} wanted {j} f h = sym (same_not (before_zero s) wanted (λ k. h (omega (arith, ap length (sym f.is ∙ k), length-take j s, f.inside))))

-- the first n bytes of s are the first n of wanted, and none of them is zero
pub record Agreeing (s wanted : List ℕ) (n : ℕ) : Type 0 where
  pub few : n ≤ length wanted
  pub run : Running s n
  pub is : take n s ≡ take n wanted

module _ {s wanted : List ℕ} where
  pub agree_start : Agreeing s wanted 0
  agree_start = record { few = omega arith; run = run_start; is = refl }

  module _ {n : ℕ} (a : Agreeing s wanted n) where
    pub agree_short : n < length wanted → get_or s n 0 ≡ 0 → ComparesPiece s wanted (record { equal = false; end = n })
    agree_short h z = let f = run_zero a.run z in record { piece = f; is = other_length wanted f (λ y. omega arith) }

    pub agree_past : n < length wanted → n ≡ length s → ComparesPiece s wanted (record { equal = false; end = n })
    agree_past h z = agree_short h (get_or-eq_default s 0 (omega arith))

    pub agree_turn : n < length wanted → n < length s → (get_or s n 0 ≡ 0 → ⊥) → get_or s n 0 ≡ get_or wanted n 0 → Agreeing s wanted (n + 1)
    agree_turn h l z k =
        let m : n + 1 ≡ suc n = omega arith in
        record {
          few = omega arith;
          run = run_byte a.run l z;
          is = rw m (take-suc s n 0 l ∙ ap₂ (λ (xs : List ℕ) (x : ℕ). xs ++ x ∷ []) a.is k ∙ sym (take-suc wanted n 0 h));
        }

    pub agree_other : n < length wanted → (get_or s n 0 ≡ get_or wanted n 0 → ⊥) → {j : ℕ} → FirstPiece s j → ComparesPiece s wanted (record { equal = false; end = j })
    agree_other h d {j} f = record {
      piece = f;
      is = sym (same_not (before_zero s) wanted
          (λ k.
          let t : take j s ≡ wanted = sym f.is ∙ k in
          let l : n < j = omega (arith, ap length t, length-take j s, f.inside) in
          d (sym (get_or-take j s n 0 l) ∙ ap (λ (xs : List ℕ). get_or xs n 0) t)));
    }

    module _ (h : length wanted ≤ n) where
      all : n ≡ length wanted
      all = omega (arith, a.few)

      pub agree_run : Running s (length wanted)
      agree_run = rw all at a.run

      -- the whole text stands there
      pub agree_last : {j : ℕ} → FirstPiece s j → ComparesPiece s wanted (record { equal = eqb j (length wanted); end = j })
      agree_last {j} f = record {
        piece = f;
        is =
            either (eqb j (length wanted))
            (λ t.
            let z : j ≡ n = eqb-true j (length wanted) t ∙ sym all in
            t ∙ sym (ap (λ (xs : List ℕ). same xs wanted) (f.is ∙ ap (λ (i : ℕ). take i s) z ∙ a.is ∙ take_all n wanted h) ∙ same_refl wanted))
            (λ t. t ∙ other_length wanted f (eqb-false j (length wanted) t));
      }

-- ---- a name

module _ (b : List ℕ) (e : ℕ) {x : ℕ} (wanted : List ℕ) where
  -- the empty name has no bytes
  pub unnamed_equal : x ≡ 0 → eqb (length wanted) 0 ≡ same (name_bytes b e x) wanted
  unfolding name_bytes
  unnamed_equal z = simp (eq-eqb x 0 z) (same_empty wanted)

  pub piece_equal : (x ≡ 0 → ⊥) → x ≤ length (heap_pieces b e) → {start : ℕ} → PieceBegins b e x start → {rest : List ℕ} → rest ≡ slice start e b
      → {c : Compared} → ComparesPiece rest wanted c → c.equal ≡ same (name_bytes b e x) wanted
  piece_equal some h s r k = k.is ∙ ap (λ (xs : List ℕ). same xs wanted) (stand_name s some h r)
