-- What a call comes to: its value, or the number and place of the first check that does not hold. A check is document 01's question.
-- Assumes nothing.
use Rattle.std.specs.Prelude.{ℕ, zero, suc, ◌-◌, ◌^◌, min, Bool, true, false, List, [], leb}
use Rattle.std.specs.Prelude.{Option, Some, None}
use Rattle.text.specs.Buffer.{over}
use Rattle.text.specs.declared.error.Failure.{Failure}

-- what a call comes to
pub data Result (A : Type 0) : Type 0 where
  ok : A → Result A
  error : Failure → Result A

-- the checks so far, and then what is done with their value
infixl 10 ◌>>=◌ ◌>>◌
abbrev pub ◌>>=◌ : {A B : Type 0} → Result A → (A → Result B) → Result B
◌>>=◌ (ok a) f = f a
◌>>=◌ (error e) f = error e

-- the checks so far, and then others that do not need their value
abbrev pub ◌>>◌ : {A B : Type 0} → Result A → Result B → Result B
◌>>◌ (ok a) m = m
◌>>◌ (error e) m = error e

-- the value read in another way; a refusal stays
abbrev pub map_result : {A B : Type 0} → (A → B) → Result A → Result B
map_result f (ok a) = ok (f a)
map_result f (error e) = error e

-- a value that may be missing, with the failure where it is
abbrev pub or_error : {A : Type 0} → Failure → Option A → Result A
or_error e (Some a) = ok a
or_error e None = error e

-- whether a call is accepted
abbrev pub is_ok : {A : Type 0} → Result A → Bool
is_ok (ok a) = true
is_ok (error e) = false

-- the values of a list where there is one
abbrev pub values_of : {A : Type 0} → Result (List A) → List A
values_of (ok xs) = xs
values_of (error e) = []

-- one check: its number, whether it holds, and its place
abbrev pub check : ℕ → Bool → ℕ → Result (Unit {0})
check n true p = ok tt
check n false p = error (record { number = n; place = p })

-- the check put to k indices from i on, in turn; the place is the first at which it does not hold
unfoldable pub check_count : ℕ → (ℕ → Bool) → ℕ → ℕ → Result (Unit {0})
check_count n holds i zero = ok tt
check_count n holds i (suc k) = check n (holds i) i >> check_count n holds (suc i) k

-- the same from i up to, not including, e
unfoldable pub check_each : ℕ → (ℕ → Bool) → ℕ → ℕ → Result (Unit {0})
check_each n holds i e = check_count n holds i (e - i)

-- the step f at k indices from i on, each on the value that the one before gave, from s
unfoldable pub fold_count : {S : Type 0} → (ℕ → S → Result S) → ℕ → ℕ → S → Result S
fold_count f i zero s = ok s
fold_count f i (suc k) s = f i s >>= fold_count f (suc i) k

-- the same from i up to, not including, e
unfoldable pub fold_range : {S : Type 0} → (ℕ → S → Result S) → ℕ → ℕ → S → Result S
fold_range f i e s = fold_count f i (e - i) s

-- 34's place, "the length the first short one needs". A place has 64 bits: a need past them gives the largest place.
abbrev pub need_place : ℕ → ℕ
need_place need = min need (2 ^ 64 - 1)

-- 34: is an output of this length long enough for what it needs?
abbrev pub check_output : ℕ → ℕ → Result (Unit {0})
check_output need room = check 34 (leb need room) (need_place need)

-- what an output buffer holds after a call: its part of the value over its front and the rest kept, or all of it kept
abbrev pub overwritten : {A B : Type 0} → (A → List B) → Result A → List B → List B
overwritten f (ok a) old = over (f a) old
overwritten f (error e) old = old
