-- What a decoding step says of a text, and the equations of `parts_from`: above them nothing looks at its count.
-- Assumes nothing.
use mathlib.Core.Path.{◌≡◌, refl, sym, ap, ◌∙◌}
use mathlib.Core.Bool.{Bool, true, false, cond}
use mathlib.Core.List.{List, [], ◌∷◌}
use Rattle.std.specs.Prelude.{Some, None}
use Rattle.std.specs.Option.{option_map}
use Prim.Native.Nat.{ℕ, zero, suc, ◌+◌, ◌-◌, ◌≤◌, ◌<◌, max}
use native.Mathlib.Omega.{arith}
use borrow.Author.Tests.{le-ltb, ltb-true, ltb-false, leb-true}
use lib.Dec.{ltb, leb, eqb}
use lib.ListN.{length, get_or}
use Rattle.text.specs.declared.utf8.Step.{Step}
use Rattle.text.specs.declared.utf8.Step.TheVariants.{Scalar, IllFormed, End}
use Rattle.text.specs.Utf8.{sequence_length, matched, whole_at, next_at, step_at, value_at, Part, sequence, ill_formed, before, parts_count, parts_from, scalars_of}
use Rattle.text.proofs.StepLaws.{has_at}
use Rattle.text.proofs.TestLaws.{clash}

-- ---- a step goes on, and stays within s

-- by the tests of `matched`, in their order: short, second, two, third, three, fourth
inside_by : (l i n : ℕ) (t h u j v k : Bool) → i < l → (t ≡ true → n ≤ 1) → (h ≡ true → i + 1 < l) → (j ≡ true → i + 2 < l) → (k ≡ true → i + 3 < l)
    → i + max 1 (cond t n (cond h (cond u 2 (cond j (cond v 3 (cond k 4 3)) 2)) 1)) ≤ l
inside_by l i n true h u j v k a p q r z = omega (arith, p refl)
inside_by l i n false false u j v k a p q r z = omega arith
inside_by l i n false true true j v k a p q r z = omega (arith, q refl)
inside_by l i n false true false false v k a p q r z = omega (arith, q refl)
inside_by l i n false true false true true k a p q r z = omega (arith, r refl)
inside_by l i n false true false true false true a p q r z = omega (arith, z refl)
inside_by l i n false true false true false false a p q r z = omega (arith, r refl)

pub next_within : (s : List ℕ) (i : ℕ) → i < length s → next_at s i ≤ length s
unfolding next_at matched
next_within s i h =
    let n : ℕ = sequence_length (get_or s i 0) in
    inside_by (length s) i n (leb n 1) _ (eqb n 2) _ (eqb n 3) _ h (leb-true n 1) (has_at s (i + 1) _ _) (has_at s (i + 2) _ _) (has_at s (i + 3) _ _)

scalar_by : (a w : Bool) (v n v' n' : ℕ) → cond a (cond w (Scalar v n) (IllFormed n)) End ≡ Scalar v' n' → (a ≡ true) × (w ≡ true) × (v' ≡ v) × (n' ≡ n)
scalar_by true true v n v' n' e = (refl, refl, cc, cc)
scalar_by true false v n v' n' e = clash cc
scalar_by false w v n v' n' e = clash cc

ill_formed_by : (a w : Bool) (v n n' : ℕ) → cond a (cond w (Scalar v n) (IllFormed n)) End ≡ IllFormed n' → (a ≡ true) × (w ≡ false) × (n' ≡ n)
ill_formed_by true true v n n' e = clash cc
ill_formed_by true false v n n' e = (refl, refl, cc)
ill_formed_by false w v n n' e = clash cc

end_by : (a w : Bool) (v n : ℕ) → cond a (cond w (Scalar v n) (IllFormed n)) End ≡ End → a ≡ false
end_by true true v n e = clash cc
end_by true false v n e = clash cc
end_by false w v n e = refl

-- a step that found something goes on, within s
pub record StepsTo (s : List ℕ) (i next : ℕ) : Type 0 where
  pub here : i < length s
  pub on : i < next
  pub inside : next ≤ length s
  pub next_is : next ≡ next_at s i

steps_to : (s : List ℕ) (i next : ℕ) → i < length s → next ≡ next_at s i → StepsTo s i next
unfolding next_at
steps_to s i next h e = record { here = h; on = omega (arith, e); inside = rw e (next_within s i h); next_is = e }

-- a step that found the scalar value v
pub record Reads (s : List ℕ) (i v next : ℕ) : Type 0 where
  pub advance : StepsTo s i next
  pub whole : whole_at s i ≡ true
  pub value : v ≡ value_at s i (matched s i)

-- a step that found an ill-formed part
pub record Breaks (s : List ℕ) (i next : ℕ) : Type 0 where
  pub advance : StepsTo s i next
  pub not_whole : whole_at s i ≡ false

module _ (s : List ℕ) (i : ℕ) where
  pub step_reads : {v next : ℕ} → step_at s i ≡ Scalar v next → Reads s i v next
  unfolding step_at
  step_reads {v} {next} e =
      let f = scalar_by (ltb i (length s)) (whole_at s i) (value_at s i (matched s i)) (next_at s i) v next e in
      record { advance = steps_to s i next (ltb-true _ _ f.0) f.3; whole = f.1; value = f.2 }

  pub step_breaks : {next : ℕ} → step_at s i ≡ IllFormed next → Breaks s i next
  unfolding step_at
  step_breaks {next} e =
      let f = ill_formed_by (ltb i (length s)) (whole_at s i) (value_at s i (matched s i)) (next_at s i) next e in
      record { advance = steps_to s i next (ltb-true _ _ f.0) f.2; not_whole = f.1 }

  pub step_end : step_at s i ≡ End → length s ≤ i
  unfolding step_at
  step_end e = ltb-false _ _ (end_by (ltb i (length s)) (whole_at s i) (value_at s i (matched s i)) (next_at s i) e)

  end_step : length s ≤ i → step_at s i ≡ End
  unfolding step_at
  end_step h = simp (le-ltb _ _ h)

-- ---- the equations of `parts_from`

count_end : (k : ℕ) (s : List ℕ) (i : ℕ) → length s ≤ i → parts_count k s i ≡ []
unfolding parts_count
count_end zero s i h = refl
count_end (suc k) s i h = rw (end_step s i h)

same_by : (s : List ℕ) (i : ℕ) (f g : ℕ → List Part) → ((n : ℕ) → StepsTo s i n → f n ≡ g n)
    → (t : Step) → step_at s i ≡ t → before (step_at s i) i f ≡ before (step_at s i) i g
same_by s i f g h (Scalar v n) e = rw e (ap (λ (ps : List Part). sequence v ∷ ps) (h n (step_reads s i e).advance))
same_by s i f g h (IllFormed n) e = rw e (ap (λ (ps : List Part). ill_formed i ∷ ps) (h n (step_breaks s i e).advance))
same_by s i f g h End e = rw e

-- any count that is large enough gives the same
same : (k m : ℕ) (s : List ℕ) (i : ℕ) → length s - i ≤ k → length s - i ≤ m → parts_count k s i ≡ parts_count m s i
unfolding parts_count
same zero m s i hk hm = sym (count_end m s i (omega arith))
same (suc k) zero s i hk hm = count_end (suc k) s i (omega arith)
same (suc k) (suc m) s i hk hm =
    same_by s i (parts_count k s) (parts_count m s) (λ n a. same k m s n (omega (arith, a)) (omega (arith, a))) (step_at s i) refl

module _ (s : List ℕ) (i : ℕ) where
  pub parts_end : length s ≤ i → parts_from s i ≡ []
  unfolding parts_from
  parts_end h = count_end (length s - i) s i h

  rest_same : {next : ℕ} → StepsTo s i next → parts_count (length s - suc i) s next ≡ parts_from s next
  unfolding parts_from
  rest_same {next} a = same (length s - suc i) (length s - next) s next (omega (arith, a)) (omega (arith, a))

  pub parts_scalar : {v next : ℕ} → step_at s i ≡ Scalar v next → parts_from s i ≡ sequence v ∷ parts_from s next
  unfolding parts_from parts_count
  parts_scalar {v} {next} e =
      let a = (step_reads s i e).advance in
      let k : length s - i ≡ suc (length s - suc i) = omega (arith, a) in
      rw (k, e) (ap (λ (ps : List Part). sequence v ∷ ps) (rest_same a))

  pub parts_ill_formed : {next : ℕ} → step_at s i ≡ IllFormed next → parts_from s i ≡ ill_formed i ∷ parts_from s next
  unfolding parts_from parts_count
  parts_ill_formed {next} e =
      let a = (step_breaks s i e).advance in
      let k : length s - i ≡ suc (length s - suc i) = omega (arith, a) in
      rw (k, e) (ap (λ (ps : List Part). ill_formed i ∷ ps) (rest_same a))

  -- the scalar values from i on

  pub scalars_end : length s ≤ i → scalars_of (parts_from s i) ≡ Some []
  unfolding scalars_of
  scalars_end h = rw (parts_end h)

  pub scalars_scalar : {v next : ℕ} → step_at s i ≡ Scalar v next → scalars_of (parts_from s i) ≡ option_map (λ vs. v ∷ vs) (scalars_of (parts_from s next))
  unfolding scalars_of
  scalars_scalar e = rw (parts_scalar e)

  pub scalars_ill_formed : {next : ℕ} → step_at s i ≡ IllFormed next → scalars_of (parts_from s i) ≡ None
  unfolding scalars_of
  scalars_ill_formed e = rw (parts_ill_formed e)

-- a rule of the parts from each position on, by what the step there finds
module _ (s : List ℕ) (P : ℕ → List Part → Type 0) (end : (i : ℕ) → length s ≤ i → P i [])
    (scalar : (i v n : ℕ) → step_at s i ≡ Scalar v n → P n (parts_from s n) → P i (sequence v ∷ parts_from s n))
    (ill_formed_lem : (i n : ℕ) → step_at s i ≡ IllFormed n → P n (parts_from s n) → P i (ill_formed i ∷ parts_from s n)) where
  rule_by : (i : ℕ) → ((n : ℕ) → StepsTo s i n → P n (parts_from s n)) → (t : Step) → step_at s i ≡ t → P i (parts_from s i)
  rule_by i f (Scalar v n) e = rw (parts_scalar s i e) (scalar i v n e (f n (step_reads s i e).advance))
  rule_by i f (IllFormed n) e = rw (parts_ill_formed s i e) (ill_formed_lem i n e (f n (step_breaks s i e).advance))
  rule_by i f End e = rw (parts_end s i (step_end s i e)) (end i (step_end s i e))

  rule_count : (k i : ℕ) → length s - i ≤ k → P i (parts_from s i)
  rule_count zero i h = rw (parts_end s i (omega arith)) (end i (omega arith))
  rule_count (suc k) i h = rule_by i (λ n a. rule_count k n (omega (arith, a))) (step_at s i) refl

  pub parts_rule : (i : ℕ) → P i (parts_from s i)
  parts_rule i = rule_count (length s) i (omega arith)

-- ---- a loop's measure: what is left of the text

unfoldable pub left : List ℕ → ℕ → ℕ
left s i = length s - i

module _ (s : List ℕ) (i : ℕ) {x : Step} (e : x ≡ step_at s i) where
  scalar_on : {v next : ℕ} → x ≡ Scalar v next → StepsTo s i next
  scalar_on g = (step_reads s i (sym e ∙ g)).advance

  pub scalar_less : {v next : ℕ} → x ≡ Scalar v next → left s next < left s i
  unfolding left
  scalar_less g = omega (arith, scalar_on g)

  pub ill_formed_after : {next : ℕ} → x ≡ IllFormed next → i ≤ next
  ill_formed_after g =
      let a = (step_breaks s i (sym e ∙ g)).advance in
      omega (arith, a)

  pub ill_formed_less : {next : ℕ} → x ≡ IllFormed next → left s next < left s i
  unfolding left
  ill_formed_less {next} g =
      let a = (step_breaks s i (sym e ∙ g)).advance in
      omega (arith, a)

pub left_less : (s : List ℕ) (i j : ℕ) → i < j → j ≤ length s → left s j < left s i
unfolding left
left_less s i j a b = omega arith

pub byte_less : (s : List ℕ) (i : ℕ) → i < length s → left s (i + 1) < left s i
unfolding left
byte_less s i h = omega arith

pub ruleset less = (scalar_less, ill_formed_less, byte_less)
