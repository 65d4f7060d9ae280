-- Tests, the values that they choose between, and ranges.
-- Assumes nothing.
use mathlib.Core.Path.{◌≡◌, refl, sym, ◌∙◌, ap, subst}
use mathlib.Core.Bool.{Bool, true, false, cond, ◌&&◌, ◌||◌}
use mathlib.Core.List.{List, [], ◌∷◌}
use Prim.Native.Nat.{ℕ, zero, suc, ◌+◌, ◌≤◌, ◌<◌}
use native.Mathlib.Nat.{add-zero, zero-add, add-suc, suc-add, le_of_suc-le-suc, not-suc-le-zero}
use native.Mathlib.Omega.{arith}
use borrow.Author.Tests.{le-leb, lt-leb, leb-true, leb-false, eqb-true, eqb-false}
use lib.Dec.{T, leb, ltb, eqb, ltb→lt, eqb→eq}
use lib.ListN.{get_or}
use Rattle.text.specs.Unicode.{within}

-- from two facts that `cc` finds to be at odds: `clash cc`
pub clash {ℓ} : {P : Type ℓ} → ◌≡◌ {A = ℕ} 0 1 → P
clash e = absurd (omega arith)

pub not_both {ℓ} : {P : Type ℓ} {t : Bool} → t ≡ true → t ≡ false → P
not_both {P} {t} e f = clash cc

pub and_is : (a b : Bool) → (a && b) ≡ true → (a ≡ true) × (b ≡ true)
and_is true b e = (refl, e)
and_is false b e = not_both e refl

pub neither : (a b : Bool) → (a || b) ≡ false → (a ≡ false) × (b ≡ false)
neither true b e = not_both refl e
neither false b e = (refl, e)

-- what holds of both values that a test chooses between holds of the chosen one
pub cond_both {ℓ} : {X : Type 0} (P : X → Type ℓ) (t : Bool) (x y : X) → (t ≡ true → P x) → (t ≡ false → P y) → P (cond t x y)
cond_both P true x y f g = f refl
cond_both P false x y f g = g refl

-- by the two outcomes of a test
pub either {ℓ} : {P : Type ℓ} (t : Bool) → (t ≡ true → P) → (t ≡ false → P) → P
either {P} t f g = cond_both (λ (_ : ℕ). P) t 0 0 f g

-- by whether two numbers are equal
pub equal_or {ℓ} : {P : Type ℓ} (a k : ℕ) → (a ≡ k → P) → ((a ≡ k → ⊥) → P) → P
equal_or a k f g = either (eqb a k) (λ e. f (eqb-true a k e)) (λ e. g (eqb-false a k e))

-- ---- ranges

pub within_yes : (lo hi u : ℕ) → lo ≤ u → u ≤ hi → within lo hi u ≡ true
within_yes lo hi u l h = simp (le-leb lo u l, le-leb u hi h)

pub within_under : (lo hi u : ℕ) → u < lo → within lo hi u ≡ false
within_under lo hi u l = simp (lt-leb lo u l)

pub within_over : (lo hi u : ℕ) → lo ≤ u → hi < u → within lo hi u ≡ false
within_over lo hi u l h = simp (le-leb lo u l, lt-leb u hi h)

pub within_is : (lo hi u : ℕ) → within lo hi u ≡ true → (lo ≤ u) × (u ≤ hi)
within_is lo hi u e =
    let p = and_is (leb lo u) (leb u hi) e in
    (leb-true lo u p.0, leb-true u hi p.1)

outside_by : {P : Type 0} (lo hi u : ℕ) (a b : Bool) → leb lo u ≡ a → leb u hi ≡ b → (a && b) ≡ false → (u < lo → P) → (hi < u → P) → P
outside_by lo hi u false b ea eb e f g = f (leb-false lo u ea)
outside_by lo hi u true false ea eb e f g = g (leb-false u hi eb)
outside_by lo hi u true true ea eb e f g = not_both refl e

pub within_not : {P : Type 0} (lo hi u : ℕ) → within lo hi u ≡ false → (u < lo → P) → (hi < u → P) → P
within_not lo hi u e f g = outside_by lo hi u (leb lo u) (leb u hi) refl refl e f g

-- ---- a rule at each number below a bound, by one test that antt computes

and_left : (a b : Bool) → T (a && b) → T a
and_left true b t = tt
and_left false b t = t

and_right : (a b : Bool) → T (a && b) → T b
and_right true b t = t
and_right false b t = absurd t

-- the test f passes at each of the n numbers from i
abbrev pub every : (ℕ → Bool) → ℕ → ℕ → Bool
every f i zero = true
every f i (suc n) = f i && every f (suc i) n

every_from : (f : ℕ → Bool) (n i : ℕ) → T (every f i n) → (k : ℕ) → k < n → T (f (i + k))
every_from f zero i t k h = absurd (not-suc-le-zero h)
every_from f (suc n) i t zero h = subst (λ (m : ℕ). T (f m)) (sym (add-zero i)) (and_left (f i) (every f (suc i) n) t)
every_from f (suc n) i t (suc k) h =
    subst (λ (m : ℕ). T (f m)) (suc-add i k ∙ sym (add-suc i k))
    (every_from f n (suc i) (and_right (f i) (every f (suc i) n) t) k (le_of_suc-le-suc h))

every_below : (f : ℕ → Bool) (n : ℕ) → T (every f 0 n) → (k : ℕ) → k < n → T (f k)
every_below f n t k h = subst (λ (m : ℕ). T (f m)) (zero-add k) (every_from f n 0 t k h)

-- two functions to numbers agree below n
pub agree : (f g : ℕ → ℕ) (n : ℕ) → T (every (λ k. eqb (f k) (g k)) 0 n) → (k : ℕ) → k < n → f k ≡ g k
agree f g n t k h = eqb→eq (f k) (g k) (every_below (λ k. eqb (f k) (g k)) n t k h)

-- the values of a function stay below a bound, below n
pub under : (f : ℕ → ℕ) (bound n : ℕ) → T (every (λ k. ltb (f k) bound) 0 n) → (k : ℕ) → k < n → f k < bound
under f bound n t k h = ltb→lt (f k) bound (every_below (λ k. ltb (f k) bound) n t k h)

-- the values of f at the n numbers from i on: a table that is written out is this list by computing
abbrev pub listed : (ℕ → ℕ) → ℕ → ℕ → List ℕ
listed f i zero = []
listed f i (suc n) = f i ∷ listed f (suc i) n

listed_from : (f : ℕ → ℕ) (n i k : ℕ) → k < n → get_or (listed f i n) k 0 ≡ f (i + k)
listed_from f zero i k h = absurd (not-suc-le-zero h)
listed_from f (suc n) i zero h = sym (ap f (add-zero i))
listed_from f (suc n) i (suc k) h = listed_from f n (suc i) k (le_of_suc-le-suc h) ∙ ap f (suc-add i k ∙ sym (add-suc i k))

pub listed_at : (f : ℕ → ℕ) (n k : ℕ) → k < n → get_or (listed f 0 n) k 0 ≡ f k
listed_at f n k h = listed_from f n 0 k h ∙ ap f (zero-add k)
