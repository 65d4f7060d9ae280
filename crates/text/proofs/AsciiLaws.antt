-- A text of ASCII bytes alone is well-formed and has a code unit for each; and the loop of `highest`.
-- Assumes nothing.
use mathlib.Core.Path.{◌≡◌, refl, ◌∙◌, sym, ap, ap₂}
use mathlib.Core.List.{List, [], ◌∷◌, ◌++◌, map}
use Rattle.std.specs.Prelude.{Some, None, Ok}
use Prim.Native.Nat.{ℕ, suc, ◌+◌, ◌≤◌, ◌<◌, max}
use native.Mathlib.Omega.{arith}
use lib.ListN.{length, get_or, take}
use lib.Seq.{take-suc}
use Rattle.text.specs.Replies.{CountsUnits}
use Rattle.text.specs.Unicode.{Below, utf8s, utf16s}
use Rattle.text.specs.Utf8.{sequence, parts_from, first_ill_formed, scalars8, lossy}
use Rattle.text.proofs.ScalarLaws.{Scalars, Without, gap_below, utf8_1, utf16_1, utf8s_nil, utf8s_cons, utf16s_nil, utf16s_cons, below_append}
use Rattle.text.proofs.Utf8Laws.{parts_utf8s, scalars8_utf8s, lossy_same}

pub below_more : (a b : ℕ) (xs : List ℕ) → a ≤ b → Below a xs → Below b xs
below_more a b [] h p = tt
below_more a b (x ∷ xs) h p = (omega (arith, p.0), below_more a b xs h p.1)

-- ---- the loop of `highest`

-- no byte before index i is above high
pub record Highest (s : List ℕ) (high i : ℕ) : Type 0 where
  pub bound : i ≤ length s
  pub below : Below (high + 1) (take i s)

module _ (s : List ℕ) where
  module _ {high i : ℕ} (m : Highest s high i) where
    pub highest_turn : {r : ℕ} → i < length s → r ≡ max high (get_or s i 0) → Highest s r (i + 1)
    highest_turn {r} h g =
        let n : i + 1 ≡ suc i = omega arith in
        record {
          bound = omega arith;
          below =
              rw (n, take-suc s i 0 h)
              (below_append (r + 1) (take i s) (get_or s i 0 ∷ []) (below_more (high + 1) (r + 1) (take i s) (omega arith) m.below) (omega arith, tt));
        }

-- ---- a text of ASCII bytes

ascii_utf8s : (s : List ℕ) → Below 128 s → utf8s s ≡ s
ascii_utf8s [] p = utf8s_nil
ascii_utf8s (b ∷ s) p = utf8s_cons b s ∙ ap₂ ◌++◌ (utf8_1 b p.0) (ascii_utf8s s p.1)

ascii_utf16s : (s : List ℕ) → Below 128 s → utf16s s ≡ s
ascii_utf16s [] p = utf16s_nil
ascii_utf16s (b ∷ s) p = utf16s_cons b s ∙ ap₂ ◌++◌ (utf16_1 b (omega (arith, p.0))) (ascii_utf16s s p.1)

ascii_scalars : (s : List ℕ) → Below 128 s → Scalars s
ascii_scalars [] p = tt
ascii_scalars (b ∷ s) p = (record { top = omega (arith, p.0); gap = gap_below b (omega (arith, p.0)) }, ascii_scalars s p.1)

pub ascii_well_formed : (s : List ℕ) → Below 128 s → scalars8 s ≡ Some s
ascii_well_formed s p = rw (ascii_utf8s s p) at (scalars8_utf8s s (ascii_scalars s p))

pub ascii_lossy : (s : List ℕ) → Below 128 s → lossy s ≡ s
ascii_lossy s p = lossy_same s (ascii_well_formed s p)

-- ASCII has no U+FFFD
pub ascii_without : (s : List ℕ) → Below 128 s → Without 0xFFFD s
ascii_without [] p = tt
ascii_without (b ∷ s) p = ((λ e. omega (arith, p.0)), ascii_without s p.1)

none_ill_formed : (s : List ℕ) → first_ill_formed (map sequence s) ≡ None
unfolding first_ill_formed
none_ill_formed [] = refl
none_ill_formed (b ∷ s) = none_ill_formed s

pub ascii_counts : (s : List ℕ) {high : ℕ} → Below (high + 1) s → high < 0x80 → CountsUnits s (Ok (length s))
ascii_counts s {high} p h =
    let q : Below 128 s = below_more (high + 1) 128 s (omega arith) p in
    let e = ascii_utf8s s q in
    let v : scalars8 s ≡ Some s = ascii_well_formed s q in
    let f : parts_from s 0 ≡ map sequence s = rw e at (parts_utf8s s (ascii_scalars s q)) in
    record { units = rw v (ap (λ (us : List ℕ). Some (length us)) (sym (ascii_utf16s s q))); place = sym (ap first_ill_formed f ∙ none_ill_formed s) }
