-- The loop of `count_units`.
-- Assumes nothing.
use mathlib.Core.Path.{◌≡◌, refl, ◌∙◌, sym, ap, ap₂}
use mathlib.Core.Bool.{true}
use mathlib.Core.List.{List, ◌∷◌, flat_map}
use Rattle.std.specs.Prelude.{Option, Some, None, Ok, Err, Result as Reply}
use Rattle.std.specs.Option.{option_map}
use Rattle.std.proofs.lemmas.Option.{same_Some}
use Prim.Native.Nat.{ℕ, ◌+◌, ◌-◌, ◌/◌, ◌≤◌, ◌<◌, max}
use native.Mathlib.Omega.{arith}
use borrow.Author.Tests.{lt-ltb, ltb-true, eqb-true}
use lib.Dec.{ltb, eqb}
use lib.ListN.{length, get_or, length-append}
use Rattle.text.specs.declared.utf8.Step.TheVariants.{Scalar, IllFormed}
use Rattle.text.specs.declared.utf8.Utf8Error.{Utf8Error}
use Rattle.text.specs.Replies.{error_place, CountsUnits}
use Rattle.text.specs.Stages.Utf8.{whole_length}
use Rattle.text.specs.Unicode.{utf16, utf16s}
use Rattle.text.specs.Utf8.{sequence_length, matched, value_at, whole_at, next_at, step_at, parts_from, scalars_of, first_ill_formed, units_of}
use Rattle.text.proofs.LeadLaws.{ascii}
use Rattle.text.proofs.PartLaws.{step_reads, parts_end, parts_scalar, parts_ill_formed}
use Rattle.text.proofs.ScalarLaws.{lengths}
use Rattle.text.proofs.TestLaws.{and_is, either}
use Rattle.text.proofs.Utf8Laws.{took_size, not_some}

-- n units are counted before i, and all before i is well-formed
pub record Counting (t : List ℕ) (n i : ℕ) : Type 0 where
  pub bound : i ≤ length t
  pub most : n ≤ i
  pub units : option_map length (units_of t) ≡ option_map (λ vs. n + length (utf16s vs)) (scalars_of (parts_from t i))
  pub place : first_ill_formed (parts_from t 0) ≡ first_ill_formed (parts_from t i)

from_none : (m : Option (List ℕ)) → option_map length (option_map utf16s m) ≡ option_map (λ vs. 0 + length (utf16s vs)) m
from_none (Some vs) = ap Some (omega arith)
from_none None = refl

one_more : (n v : ℕ) (m : Option (List ℕ)) → option_map (λ vs. n + length (utf16s vs)) (option_map (λ vs. v ∷ vs) m) ≡ option_map (λ vs. (n + length (utf16 v)) + length (utf16s vs)) m
unfolding flat_map
one_more n v (Some vs) = ap Some (omega (arith, length-append (utf16 v) (utf16s vs)))
one_more n v None = refl

pub broken_here : (t : List ℕ) (i : ℕ) → i < length t → None ≡ whole_length t i → step_at t i ≡ IllFormed (next_at t i)
unfolding step_at whole_length
broken_here t i h z = either (whole_at t i) (λ w. not_some (rw w at z)) (λ w. simp (lt-ltb i (length t) h, w))

-- a whole sequence stands at i
module _ (t : List ℕ) (i : ℕ) {r : ℕ} (h : i < length t) (e : Some r ≡ whole_length t i) where
  pub whole_is : (whole_at t i ≡ true) × (matched t i ≡ r)
  unfolding whole_length
  whole_is = either (whole_at t i) (λ w. (w, same_Some _ _ (sym (rw w at e)))) (λ w. not_some (sym (rw w at e)))

  pub whole_least : 1 ≤ r
  unfolding whole_at
  whole_least =
      let w = whole_is in
      let p = and_is (ltb 0 (sequence_length (get_or t i 0))) (eqb (matched t i) (sequence_length (get_or t i 0))) w.0 in
      omega (arith, w.1, ltb-true 0 (sequence_length (get_or t i 0)) p.0, eqb-true (matched t i) (sequence_length (get_or t i 0)) p.1)

  pub scalar_here : step_at t i ≡ Scalar (value_at t i r) (i + r)
  unfolding step_at next_at
  scalar_here =
      let w = whole_is in
      let n : i + max 1 (matched t i) ≡ i + r = omega (arith, w.1, whole_least) in
      simp (lt-ltb i (length t) h, w.0) (ap₂ (λ (m k : ℕ). Scalar (value_at t i m) k) w.1 n)

module _ (t : List ℕ) where
  module _ {n i : ℕ} (c : Counting t n i) where
    -- a sequence more
    count_scalar : {v next : ℕ} (k : ℕ) → step_at t i ≡ Scalar v next → k ≡ 1 + (next - i) / 4 → Counting t (n + k) next
    unfolding scalars_of first_ill_formed
    count_scalar {v} {next} k e q =
        let r = step_reads t i e in
        let a = r.advance in
        let p = parts_scalar t i e in
        let z : k ≡ length (utf16 v) = omega (arith, (lengths v).exact, took_size r) in
        record {
          bound = a.inside;
          most = omega (arith, a, lengths v, took_size r);
          units = rw z (rw p at c.units ∙ one_more n v (scalars_of (parts_from t next)));
          place = rw p at c.place;
        }

    pub count_ascii : i < length t → get_or t i 0 < 128 → Counting t (n + 1) (i + 1)
    count_ascii h b = count_scalar 1 (sym (ascii t i h b)) (omega arith)

    pub count_whole : {r : ℕ} → i < length t → Some r ≡ whole_length t i → {u : ℕ} → u ≡ 1 + r / 4 → Counting t (n + u) (i + r)
    count_whole {r} h e {u} k = count_scalar u (scalar_here t i h e) (let q : i + r - i ≡ r = omega arith in rw q k)

    pub count_stop : i < length t → None ≡ whole_length t i → CountsUnits t (Err (record { valid_up_to = i }))
    unfolding scalars_of first_ill_formed
    count_stop h e =
        let p = parts_ill_formed t i (broken_here t i h e) in
        record { units = sym (rw p at c.units); place = sym (rw p at c.place) }

    pub count_last : length t ≤ i → CountsUnits t (Ok n)
    unfolding scalars_of first_ill_formed flat_map
    count_last h =
        let p = parts_end t i h in
        let z : n + 0 ≡ n = omega arith in
        record { units = sym (rw p at c.units ∙ ap Some z); place = sym (rw p at c.place) }

-- the place alone
pub valid_units : (t : List ℕ) {x : Reply ℕ Utf8Error} {n : ℕ} → CountsUnits t x → x ≡ Ok n → None ≡ first_ill_formed (parts_from t 0)
valid_units t c e = sym (ap error_place e) ∙ c.place
