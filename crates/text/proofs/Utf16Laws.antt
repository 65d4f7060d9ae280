-- UTF-16: what was encoded is read back, and what is read was encoded; and with UTF-8, a text and its code units give each other.
-- Assumes nothing.
use mathlib.Core.Path.{◌≡◌, refl, ◌∙◌, sym, ap, ap₂}
use mathlib.Core.Bool.{Bool, true, false, cond}
use mathlib.Core.List.{List, [], ◌∷◌, ◌++◌, flat_map}
use Rattle.std.specs.Prelude.{Some, None}
use Rattle.std.specs.Option.{option_map}
use Prim.Native.Nat.{ℕ, ◌+◌, ◌-◌, ◌/◌, ◌%◌, ◌≤◌, ◌<◌}
use native.Mathlib.Omega.{arith}
use borrow.Author.Tests.{ltb-true, ltb-false}
use lib.Dec.{ltb}
use Rattle.text.specs.Unicode.{Below, is_high_surrogate, is_low_surrogate, is_surrogate, utf8s, utf16, utf16s}
use Rattle.text.specs.Utf8.{scalars8, units_of}
use Rattle.text.specs.Utf16.{pair_value, scalars16, text_of}
use Rattle.text.proofs.ScalarLaws.{IsScalar, Scalars, gap_below, gap_above, gap_cases, utf16_1, utf16_2, utf8s_below, utf16s_below}
use Rattle.text.proofs.TestLaws.{either, within_yes, within_under, within_over, within_is, within_not}
use Rattle.text.proofs.Utf8Laws.{map_is, not_some, scalars8_utf8s, spelled}

-- ---- the ranges of surrogates

-- no half, no surrogate
no_half : (u : ℕ) → is_high_surrogate u ≡ false → is_low_surrogate u ≡ false → is_surrogate u ≡ false
no_half u h l =
    within_not 0xD800 0xDBFF u h (λ k. gap_below u k)
    (λ k. within_not 0xDC00 0xDFFF u l (λ m. absurd (omega arith)) (λ m. gap_above u m))

-- no surrogate, no half
gap_high : (u : ℕ) → is_surrogate u ≡ false → is_high_surrogate u ≡ false
gap_high u e = gap_cases u e (λ k. within_under 0xD800 0xDBFF u k) (λ k. within_over 0xD800 0xDBFF u (omega arith) (omega arith))

gap_low : (u : ℕ) → is_surrogate u ≡ false → is_low_surrogate u ≡ false
gap_low u e = gap_cases u e (λ k. within_under 0xDC00 0xDFFF u (omega arith)) (λ k. within_over 0xDC00 0xDFFF u (omega arith) (omega arith))

-- ---- the equations of `scalars16`

pub one_unit : (u : ℕ) (us : List ℕ) → is_surrogate u ≡ false → scalars16 (u ∷ us) ≡ option_map (λ vs. u ∷ vs) (scalars16 us)
unfolding scalars16
one_unit u [] g = simp g
one_unit u (v ∷ us) g = simp (gap_high u g, gap_low u g)

pub two_units : (h l : ℕ) (us : List ℕ) → is_high_surrogate h ≡ true → is_low_surrogate l ≡ true → scalars16 (h ∷ l ∷ us) ≡ option_map (λ vs. pair_value h l ∷ vs) (scalars16 us)
unfolding scalars16
two_units h l us eh el = simp (eh, el)

pub scalars16_nil : scalars16 [] ≡ Some []
unfolding scalars16
scalars16_nil = refl

-- a surrogate that has no partner
pub alone : (u : ℕ) → is_surrogate u ≡ true → scalars16 (u ∷ []) ≡ None
unfolding scalars16
alone u e = simp e

not_high : (u : ℕ) → is_surrogate u ≡ true → is_high_surrogate u ≡ false → is_low_surrogate u ≡ true
not_high u e h =
    let r = within_is 0xD800 0xDFFF u e in
    within_not 0xD800 0xDBFF u h (λ k. absurd (omega arith)) (λ k. within_yes 0xDC00 0xDFFF u (omega arith) r.1)

pub low_first : (u v : ℕ) (us : List ℕ) → is_surrogate u ≡ true → is_high_surrogate u ≡ false → scalars16 (u ∷ v ∷ us) ≡ None
unfolding scalars16
low_first u v us e h = simp (h, not_high u e h)

pub no_low : (u v : ℕ) (us : List ℕ) → is_high_surrogate u ≡ true → is_low_surrogate v ≡ false → scalars16 (u ∷ v ∷ us) ≡ None
unfolding scalars16
no_low u v us h l = simp (h, l)

-- ---- what was encoded is read back

back_one : (v : ℕ) (us : List ℕ) → IsScalar v → scalars16 (utf16 v ++ us) ≡ option_map (λ vs. v ∷ vs) (scalars16 us)
back_one v us sc =
    either (ltb v 0x10000)
    (λ e. rw (utf16_1 v (ltb-true v 0x10000 e)) (one_unit v us sc.gap))
    (λ e.
    let k : 0x10000 ≤ v = ltb-false v 0x10000 e in
    let t = sc.top in
    let h : ℕ = 0xD800 + (v - 0x10000) / 1024 in
    let l : ℕ = 0xDC00 + (v - 0x10000) % 1024 in
    let val : pair_value h l ≡ v = omega arith in
    rw (utf16_2 v k)
    (two_units h l us (within_yes 0xD800 0xDBFF h (omega arith) (omega arith)) (within_yes 0xDC00 0xDFFF l (omega arith) (omega arith))
    ∙ ap (λ (x : ℕ). option_map (λ vs. x ∷ vs) (scalars16 us)) val))

pub scalars16_utf16s : (vs : List ℕ) → Scalars vs → scalars16 (utf16s vs) ≡ Some vs
unfolding flat_map scalars16
scalars16_utf16s [] h = refl
scalars16_utf16s (v ∷ vs) h = back_one v (utf16s vs) h.0 ∙ ap (option_map (λ vs. v ∷ vs)) (scalars16_utf16s vs h.1)

-- ---- what is read was encoded

pub record Spelled16 (us vs : List ℕ) : Type 0 where
  pub scalars : Scalars vs
  pub units : us ≡ utf16s vs

spelled_one : (u : ℕ) (us vs : List ℕ) → u < 65536 → is_surrogate u ≡ false → Spelled16 us vs → Spelled16 (u ∷ us) (u ∷ vs)
unfolding flat_map
spelled_one u us vs b g r = record {
  scalars = (record { top = omega arith; gap = g }, r.scalars);
  units = rw (utf16_1 u b) (ap (λ (x : List ℕ). u ∷ x) r.units);
}

spelled_two : (h l : ℕ) (us vs : List ℕ) → is_high_surrogate h ≡ true → is_low_surrogate l ≡ true → Spelled16 us vs → Spelled16 (h ∷ l ∷ us) (pair_value h l ∷ vs)
unfolding flat_map
spelled_two h l us vs eh el r =
    let a = within_is 0xD800 0xDBFF h eh in
    let b = within_is 0xDC00 0xDFFF l el in
    record {
      scalars = (record { top = omega arith; gap = gap_above (pair_value h l) (omega arith) }, r.scalars);
      units =
          rw (utf16_2 (pair_value h l) (omega arith))
          (ap₂ (λ (x : ℕ) (t : List ℕ). x ∷ t) (omega arith) (ap₂ (λ (x : ℕ) (t : List ℕ). x ∷ t) (omega arith) r.units));
    }

last_by : (u : ℕ) (vs : List ℕ) (t : Bool) → u < 65536 → is_surrogate u ≡ t → cond t None (Some (u ∷ [])) ≡ Some vs → Spelled16 (u ∷ []) vs
unfolding flat_map
last_by u vs true b g e = not_some e
last_by u vs false b g e =
    let w : vs ≡ u ∷ [] = cc in
    rw w (spelled_one u [] [] b g (record { scalars = tt; units = refl }))

front_by : (u v : ℕ) (us vs : List ℕ) → u < 65536
    → ((ws : List ℕ) → scalars16 us ≡ Some ws → Spelled16 us ws) → ((ws : List ℕ) → scalars16 (v ∷ us) ≡ Some ws → Spelled16 (v ∷ us) ws)
    → (p q r : Bool) → is_high_surrogate u ≡ p → is_low_surrogate v ≡ q → is_low_surrogate u ≡ r
    → cond p (cond q (option_map (λ ws. pair_value u v ∷ ws) (scalars16 us)) None) (cond r None (option_map (λ ws. u ∷ ws) (scalars16 (v ∷ us)))) ≡ Some vs
    → Spelled16 (u ∷ v ∷ us) vs
front_by u v us vs b f g true true r ep eq er e =
    let o = map_is (λ ws. pair_value u v ∷ ws) (scalars16 us) e in
    rw o.1.1 (spelled_two u v us o.0 ep eq (f o.0 o.1.0))
front_by u v us vs b f g true false r ep eq er e = not_some e
front_by u v us vs b f g false q true ep eq er e = not_some e
front_by u v us vs b f g false q false ep eq er e =
    let o = map_is (λ ws. u ∷ ws) (scalars16 (v ∷ us)) e in
    rw o.1.1 (spelled_one u (v ∷ us) o.0 b (no_half u ep er) (g o.0 o.1.0))

pub spelled16 : (us : List ℕ) → Below 65536 us → (vs : List ℕ) → scalars16 us ≡ Some vs → Spelled16 us vs
unfolding scalars16 flat_map
spelled16 [] b vs e = let n : vs ≡ [] = cc in rw n (record { scalars = tt; units = refl })
spelled16 (u ∷ []) b vs e = last_by u vs (is_surrogate u) b.0 refl e
spelled16 (u ∷ v ∷ us) b vs e =
    front_by u v us vs b.0 (λ ws w. spelled16 us b.1.1 ws w) (λ ws w. spelled16 (v ∷ us) b.1 ws w) (is_high_surrogate u) (is_low_surrogate v) (is_low_surrogate u) refl refl refl e

-- ---- a text and its units give each other

pub units_text : (t us : List ℕ) → units_of t ≡ Some us → text_of us ≡ Some t
units_text t us e =
    let o = map_is utf16s (scalars8 t) e in
    let s = spelled t o.1.0 in
    rw o.1.1 (ap (option_map utf8s) (scalars16_utf16s o.0 s.scalars) ∙ ap Some (sym s.bytes))

pub text_units : (us t : List ℕ) → Below 65536 us → text_of us ≡ Some t → units_of t ≡ Some us
text_units us t b e =
    let o = map_is utf8s (scalars16 us) e in
    let s = spelled16 us b o.0 o.1.0 in
    rw o.1.1 (ap (option_map utf16s) (scalars8_utf8s o.0 s.scalars) ∙ ap Some (sym s.units))

-- the units of a text are units
pub units_below : (t us : List ℕ) → units_of t ≡ Some us → Below 65536 us
units_below t us e =
    let o = map_is utf16s (scalars8 t) e in
    rw o.1.1 (utf16s_below o.0 (spelled t o.1.0).scalars)

-- and the bytes of units are bytes
pub text_below : (us t : List ℕ) → Below 65536 us → text_of us ≡ Some t → Below 256 t
text_below us t b e =
    let o = map_is utf8s (scalars16 us) e in
    rw o.1.1 (utf8s_below o.0 (spelled16 us b o.0 o.1.0).scalars)
