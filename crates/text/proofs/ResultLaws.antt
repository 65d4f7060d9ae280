-- The laws of results. Assumes nothing.
use Prim.Native.Nat.{ℕ, zero, suc, ◌+◌, ◌-◌, ◌≤◌, ◌<◌}
use mathlib.Core.Path.{◌≡◌, refl, ap, ◌∙◌}
use mathlib.Core.Bool.{Bool, true, false}
use Rattle.std.specs.Prelude.{Option, Some, None}
use native.Mathlib.Numerals.{add-one}
use native.Mathlib.Omega.{arith}
use Rattle.text.specs.Result.{Result, ok, error, or_error, check, check_each, check_count, fold_count, fold_range, ◌>>◌, ◌>>=◌}
use Rattle.text.specs.declared.error.Failure.{Failure}
use Rattle.text.proofs.TestLaws.{clash, equal_or}

pub same_value : {A : Type 0} {x y : A} → ok x ≡ ok y → x ≡ y
same_value {A} {x} {y} e = cc

-- checks that all hold
pub check_passed : (q : ℕ) (t : Bool) (p : ℕ) {A : Type 0} (m : Result A) {a : A} → (check q t p >> m) ≡ ok a → (t ≡ true) × (m ≡ ok a)
check_passed q true p m e = (refl, e)
check_passed q false p m {a} e = clash cc

pub seq_passed : {A B : Type 0} (m : Result A) (k : Result B) {b : B} → (m >> k) ≡ ok b → (a : A) × ((m ≡ ok a) × (k ≡ ok b))
seq_passed (ok a) k e = (a, (refl, e))
seq_passed (error n) k {b} e = clash cc

pub bind_passed : {A B : Type 0} (m : Result A) (f : A → Result B) {b : B} → (m >>= f) ≡ ok b → (a : A) × ((m ≡ ok a) × (f a ≡ ok b))
bind_passed (ok a) f e = (a, (refl, e))
bind_passed (error n) f {b} e = clash cc

pub or_error_passed : {A : Type 0} (f : Failure) (m : Option A) {a : A} → or_error f m ≡ ok a → m ≡ Some a
or_error_passed f (Some x) {a} e = ap Some (same_value e)
or_error_passed f None e = clash cc

check_count_passed : (q : ℕ) (holds : ℕ → Bool) (i n : ℕ) {u : Unit {0}} → check_count q holds i n ≡ ok u → (k : ℕ) → i ≤ k → k < i + n → holds k ≡ true
unfolding check_count
check_count_passed q holds i zero e k l h = absurd (omega arith)
check_count_passed q holds i (suc n) {u} e k l h =
    let p = check_passed q (holds i) i (check_count q holds (suc i) n) e in
    at p.0 (λ m. check_count_passed q holds (suc i) n p.1 k m (omega arith)) (k - i) refl
  where
    at : holds i ≡ true → (suc i ≤ k → holds k ≡ true) → (d : ℕ) → k - i ≡ d → holds k ≡ true
    at y go zero z =
        let s : k ≡ i = omega arith in
        rw s y
    at y go (suc d) z = go (omega arith)

-- a check put to a range, by the first index of the range
module _ (q : ℕ) (holds : ℕ → Bool) (i e : ℕ) where
  pub check_each_done : e ≤ i → check_each q holds i e ≡ ok tt
  unfolding check_each check_count
  check_each_done h =
      let k : e - i ≡ zero = omega arith in
      rw k

  pub check_each_yes : i < e → holds i ≡ true → check_each q holds i e ≡ check_each q holds (i + 1) e
  unfolding check_each check_count
  check_each_yes h y =
      let k : e - i ≡ suc (e - suc i) = omega arith in
      rw (add-one, k, y)

  pub check_each_no : i < e → holds i ≡ false → check_each q holds i e ≡ error (record { number = q; place = i })
  unfolding check_each check_count
  check_each_no h y =
      let k : e - i ≡ suc (e - suc i) = omega arith in
      rw (k, y)

  pub check_each_passed : {u : Unit {0}} → check_each q holds i e ≡ ok u → (k : ℕ) → i ≤ k → k < e → holds k ≡ true
  unfolding check_each
  check_each_passed p k l h = check_count_passed q holds i (e - i) p k l (omega arith)

-- fold_count that carry a value, by the first index of the range
module _ {S : Type 0} (f : ℕ → S → Result S) (i e : ℕ) (s : S) where
  pub fold_range_done : e ≤ i → fold_range f i e s ≡ ok s
  unfolding fold_range fold_count
  fold_range_done h =
      let k : e - i ≡ zero = omega arith in
      rw k

  pub fold_range_yes : {s' : S} → i < e → f i s ≡ ok s' → fold_range f i e s ≡ fold_range f (i + 1) e s'
  unfolding fold_range fold_count
  fold_range_yes h y =
      let k : e - i ≡ suc (e - suc i) = omega arith in
      rw (add-one, k, y)

  pub fold_range_no : {n : Failure} → i < e → f i s ≡ error n → fold_range f i e s ≡ error n
  unfolding fold_range fold_count
  fold_range_no h y =
      let k : e - i ≡ suc (e - suc i) = omega arith in
      rw (k, y)

  -- a fold that is ok: its first step was
  pub fold_range_passed : {u : S} → i < e → fold_range f i e s ≡ ok u → (s' : S) × ((f i s ≡ ok s') × (fold_range f (i + 1) e s' ≡ ok u))
  unfolding fold_range fold_count
  fold_range_passed {u} h y =
      let k : e - i ≡ suc (e - suc i) = omega arith in
      let y' : (f i s >>= fold_count f (suc i) (e - suc i)) ≡ ok u = rw k at y in
      rw add-one (bind_passed (f i s) (fold_count f (suc i) (e - suc i)) y')

-- each step of a fold that passed
fold_count_step : {S : Type 0} (f : ℕ → S → Result S) (i k : ℕ) (s : S) {u : S} → fold_count f i k s ≡ ok u → (j : ℕ) → i ≤ j → j < i + k → (a : S) × ((b : S) × (f j a ≡ ok b))
unfolding fold_count
fold_count_step f i zero s e j l h = absurd (omega arith)
fold_count_step f i (suc k) s e j l h =
    let p = bind_passed (f i s) (fold_count f (suc i) k) e in
    equal_or j i (λ z. rw z (s, (p.0, p.1.0))) (λ z. fold_count_step f (suc i) k p.0 p.1.1 j (omega arith) (omega arith))

pub fold_range_step : {S : Type 0} (f : ℕ → S → Result S) (i n : ℕ) (s : S) {u : S} → fold_range f i n s ≡ ok u → (j : ℕ) → i ≤ j → j < n → (a : S) × ((b : S) × (f j a ≡ ok b))
unfolding fold_range
fold_range_step f i n s e j l h = fold_count_step f i (n - i) s e j l (omega arith)

-- a check that holds
pub check_is : (q : ℕ) (t : Bool) (p : ℕ) {u : Unit {0}} → check q t p ≡ ok u → t ≡ true
check_is q true p e = refl
check_is q false p {u} e = clash cc

-- a check that holds at each index of a range
count_holds : (q : ℕ) (holds : ℕ → Bool) (i k : ℕ) → ((j : ℕ) → i ≤ j → j < i + k → holds j ≡ true) → check_count q holds i k ≡ ok tt
unfolding check_count
count_holds q holds i zero f = refl
count_holds q holds i (suc k) f = rw (f i (omega arith) (omega arith)) (count_holds q holds (suc i) k (λ j l h. f j (omega arith) (omega arith)))

pub each_holds : (q : ℕ) (holds : ℕ → Bool) (e : ℕ) → ((j : ℕ) → j < e → holds j ≡ true) → check_each q holds 0 e ≡ ok tt
unfolding check_each
each_holds q holds e f = count_holds q holds 0 (e - 0) (λ j l h. f j (omega arith))

-- ---- a loop that puts a check to each index of a range: it holds before i
pub record Checks (n : ℕ) (holds : ℕ → Bool) (from e i : ℕ) : Type 0 where
  pub bound : i ≤ e
  pub after : from ≤ i
  pub rest : check_each n holds from e ≡ check_each n holds i e

module _ (n : ℕ) (holds : ℕ → Bool) (from e : ℕ) where
  pub checks_start : from ≤ e → Checks n holds from e from
  checks_start h = record { bound = h; after = omega arith; rest = refl }

  module _ {i : ℕ} (c : Checks n holds from e i) where
    pub checks_turn : i < e → holds i ≡ true → Checks n holds from e (i + 1)
    checks_turn h y = record { bound = omega arith; after = omega arith; rest = c.rest ∙ check_each_yes n holds i e h y }

    pub checks_stop : i < e → holds i ≡ false → check_each n holds from e ≡ error (record { number = n; place = i })
    checks_stop h y = c.rest ∙ check_each_no n holds i e h y

    pub checks_last : e ≤ i → check_each n holds from e ≡ ok tt
    checks_last h = c.rest ∙ check_each_done n holds i e h

-- checks before a value: what fails is one of them
pub seq_failed : {A B : Type 0} (m : Result A) (b : B) {n : Failure} → (m >> ok b) ≡ error n → m ≡ error n
seq_failed (ok a) b e = clash cc
seq_failed (error f) b e = cc

-- a failure passes by what is done with the value
pub bind_failed : {A B C : Type 0} (m : Result A) (f : A → Result B) (g : A → B → Result C) {e : Failure} → (m >>= f) ≡ error e → (m >>= λ a. f a >>= g a) ≡ error e
bind_failed (ok a) f g h = rw h
bind_failed (error n) f g {e} h = let z : n ≡ e = cc in ap error z

-- checks before two steps are checks before the first
pub seq_bind : {A B C : Type 0} (m : Result A) (k : Result B) (f : B → Result C) → (m >> (k >>= f)) ≡ ((m >> k) >>= f)
seq_bind (ok a) k f = refl
seq_bind (error e) k f = refl
