-- When two lists of bytes are the same, and when the repaired text of a list is a given one.
-- Assumes nothing.
use mathlib.Core.Path.{◌≡◌, refl, ◌∙◌, sym, ap}
use mathlib.Core.Bool.{true, false, ◌&&◌, and_assoc}
use mathlib.Core.List.{List, [], ◌∷◌, ◌++◌}
use Rattle.std.specs.Prelude.{Some}
use Prim.Native.Nat.{ℕ}
use native.Mathlib.Omega.{arith}
use borrow.Author.Tests.{eq-eqb, ne_eqb, eqb-true}
use lib.Dec.{eqb}
use lib.ListN.{length, take, drop}
use Rattle.text.specs.Buffer.{same}
use Rattle.text.specs.Utf8.{Part, sequence, ill_formed, parts_from, repaired, replaced_in, scalars8, lossy}
use Rattle.text.proofs.ScalarLaws.{Without}
use Rattle.text.proofs.TestLaws.{not_both, and_is, either, equal_or}
use Rattle.text.proofs.Utf8Laws.{not_some, lossy_well_formed, lossy_same}
use Rattle.text.proofs.utf8.Lossy.{none_replaced, part_replaced}

-- ---- the laws of `same`

pub same_refl : (a : List ℕ) → same a a ≡ true
unfolding same
same_refl [] = refl
same_refl (x ∷ xs) = simp (eq-eqb x x refl) (same_refl xs)

-- a list begins with w ++ x where it begins with w and goes on with x
pub same_append : (l w x : List ℕ) → same (take (length (w ++ x)) l) (w ++ x) ≡ (same (take (length w) l) w && same (take (length x) (drop (length w) l)) x)
unfolding same
same_append l [] x = refl
same_append [] (a ∷ w) x = refl
same_append (c ∷ l) (a ∷ w) x = rw (same_append l w x) (sym (and_assoc (eqb c a) _ _))

pub same_is : (a b : List ℕ) → same a b ≡ true → a ≡ b
unfolding same
same_is [] [] e = refl
same_is [] (y ∷ ys) e = not_both e refl
same_is (x ∷ xs) [] e = not_both e refl
same_is (x ∷ xs) (y ∷ ys) e =
    let p = and_is (eqb x y) (same xs ys) e in
    rw (eqb-true x y p.0, same_is xs ys p.1)

pub same_not : (a b : List ℕ) → (a ≡ b → ⊥) → same a b ≡ false
same_not a b h = either (same a b) (λ e. absurd (h (same_is a b e))) (λ e. e)

-- the empty list is the same as one of length 0
pub same_empty : (t : List ℕ) → eqb (length t) 0 ≡ same [] t
unfolding same
same_empty [] = refl
same_empty (y ∷ ys) = ne_eqb (length (y ∷ ys)) 0 (λ e. omega arith)

-- ---- the repaired text

-- a part that is replaced shows as U+FFFD
replaced_shows : (ps : List Part) → (replaced_in ps ≡ 0 → ⊥) → Without 0xFFFD (repaired ps) → ⊥
unfolding replaced_in repaired
replaced_shows [] n w = n refl
replaced_shows (sequence v ∷ ps) n w = replaced_shows ps n w.1
replaced_shows (ill_formed i ∷ ps) n w = w.0 refl

-- bytes, well-formed or not, have a well-formed text without U+FFFD for their repaired text exactly where they are that text
pub same_lossy : (s t : List ℕ) {vs : List ℕ} → scalars8 t ≡ Some vs → Without 0xFFFD vs → same (lossy s) t ≡ same s t
same_lossy s t {vs} e w =
    equal_or (replaced_in (parts_from s 0)) 0
    (λ z. ap (λ (x : List ℕ). same x t) (lossy_same s (none_replaced s z)))
    (λ n. same_not (lossy s) t
    (λ k. let z : Some vs ≡ Some (repaired (parts_from s 0)) = sym e ∙ ap scalars8 (sym k) ∙ lossy_well_formed s in
    let y : vs ≡ repaired (parts_from s 0) = cc in
    replaced_shows (parts_from s 0) n (rw y at w))
    ∙ sym (same_not s t (λ k. not_some (sym (part_replaced s n) ∙ ap scalars8 k ∙ e))))
