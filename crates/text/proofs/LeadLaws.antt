-- Table 3-7 against Table 3-6: the first bytes by their ranges, a step of reading by the bytes that it meets, and the bytes by the scalar value.
-- Assumes nothing.
use mathlib.Core.Path.{◌≡◌, refl, ◌∙◌, sym, ap, ap₂}
use mathlib.Core.Bool.{Bool, true, false, cond, ◌&&◌, and-false}
use mathlib.Core.List.{List, [], ◌∷◌}
use Prim.Native.Nat.{ℕ, ◌+◌, ◌*◌, ◌/◌, ◌%◌, ◌≤◌, ◌<◌}
use native.Mathlib.Omega.{arith}
use borrow.Author.Tests.{lt-ltb, le-ltb, lt-leb, le-leb, leb-true, ltb-true, ltb-false, eqb-true}
use lib.Dec.{ltb, leb, eqb}
use lib.ListN.{length, get_or}
use Rattle.text.specs.declared.utf8.Step.TheVariants.{Scalar}
use Rattle.text.specs.Unicode.{utf8}
use Rattle.text.specs.Utf8.{Row, table, find, sequence_length, second_range, has_in, step_at}
use Rattle.text.proofs.ScalarLaws.{IsScalar, gap_below, gap_above, utf8_1, utf8_2, utf8_3, utf8_4}
use Rattle.text.proofs.StepLaws.{one, two, three, four, value_2, value_3, value_4}
use Rattle.text.proofs.TestLaws.{and_is, cond_both, either, equal_or, agree}

-- ---- Table 3-7 by the ranges of the first byte

abbrev length_by : ℕ → ℕ
length_by b = cond (ltb b 128) 1 (cond (ltb b 194) 0 (cond (ltb b 224) 2 (cond (ltb b 240) 3 (cond (ltb b 245) 4 0))))

abbrev low_by : ℕ → ℕ
low_by b = cond (eqb b 224) 160 (cond (eqb b 240) 144 128)

abbrev high_by : ℕ → ℕ
high_by b = cond (eqb b 237) 159 (cond (eqb b 244) 143 191)

length_by_lem : (b : ℕ) → b < 256 → sequence_length b ≡ length_by b
unfolding sequence_length find table
length_by_lem b h = agree sequence_length length_by 256 tt b h

low_by_lem : (b : ℕ) → b < 256 → (second_range b).low ≡ low_by b
unfolding second_range find table
low_by_lem b h = agree (λ k. (second_range k).low) low_by 256 tt b h

high_by_lem : (b : ℕ) → b < 256 → (second_range b).high ≡ high_by b
unfolding second_range find table
high_by_lem b h = agree (λ k. (second_range k).high) high_by 256 tt b h

-- what starts a sequence is a byte, by a test of each row
abbrev narrow : List Row → Bool
narrow [] = true
narrow (r ∷ rs) = leb r.first_high 255 && narrow rs

find_none : (rs : List Row) → narrow rs ≡ true → (b : ℕ) → 256 ≤ b → (find rs b).bytes ≡ 0
unfolding find
find_none [] t b h = refl
find_none (r ∷ rs) t b h =
    let p = and_is (leb r.first_high 255) (narrow rs) t in
    let l : leb b r.first_high ≡ false = lt-leb b r.first_high (omega (arith, leb-true r.first_high 255 p.0)) in
    simp (l, and-false) (find_none rs p.1 b h)

no_start : (b : ℕ) → 256 ≤ b → sequence_length b ≡ 0
unfolding sequence_length table
no_start b h = find_none table refl b h

pub starts_byte : (b : ℕ) → 0 < sequence_length b → b < 256
starts_byte b h = either (ltb b 256) (λ e. ltb-true b 256 e) (λ e. absurd (omega (arith, no_start b (ltb-false b 256 e))))

-- the range of the first byte by the length
pub record Lead (n b : ℕ) : Type 0 where
  pub from : cond (eqb n 1) 0 (cond (eqb n 2) 194 (cond (eqb n 3) 224 240)) ≤ b
  pub to : b < cond (eqb n 1) 128 (cond (eqb n 2) 224 (cond (eqb n 3) 240 245))

lead_by : (b : ℕ) (p q r s t : Bool) → ltb b 128 ≡ p → ltb b 194 ≡ q → ltb b 224 ≡ r → ltb b 240 ≡ s → ltb b 245 ≡ t
    → (n : ℕ) → n ≡ cond p 1 (cond q 0 (cond r 2 (cond s 3 (cond t 4 0)))) → 0 < n → Lead n b
lead_by b true q r s t a c d e f n w h = rw w (record { from = omega arith; to = ltb-true b 128 a })
lead_by b false true r s t a c d e f n w h = absurd (omega arith)
lead_by b false false true s t a c d e f n w h = rw w (record { from = ltb-false b 194 c; to = ltb-true b 224 d })
lead_by b false false false true t a c d e f n w h = rw w (record { from = ltb-false b 224 d; to = ltb-true b 240 e })
lead_by b false false false false true a c d e f n w h = rw w (record { from = ltb-false b 240 e; to = ltb-true b 245 f })
lead_by b false false false false false a c d e f n w h = absurd (omega arith)

pub lead_range : (b : ℕ) → b < 256 → (n : ℕ) → n ≡ sequence_length b → 0 < n → Lead n b
lead_range b h n e p =
    lead_by b (ltb b 128) (ltb b 194) (ltb b 224) (ltb b 240) (ltb b 245) refl refl refl refl refl n (e ∙ length_by_lem b h) p

-- ASCII alone has one byte
pub not_one : (b : ℕ) → 128 ≤ b → sequence_length b ≡ 1 → ⊥
not_one b h e = omega (arith, (lead_range b (starts_byte b (omega arith)) 1 (sym e) (omega arith)).to)

-- the range of the second byte
pub record Second (a b : ℕ) : Type 0 where
  pub from : 128 ≤ b
  pub to : b ≤ 191
  pub after_224 : a ≡ 224 → 160 ≤ b
  pub after_237 : a ≡ 237 → b ≤ 159
  pub after_240 : a ≡ 240 → 144 ≤ b
  pub after_244 : a ≡ 244 → b ≤ 143

second_low : (a b : ℕ) → a < 256 → Second a b → (second_range a).low ≤ b
second_low a b h s =
    rw (low_by_lem a h)
    (cond_both (λ (x : ℕ). x ≤ b) (eqb a 224) 160 _ (λ e. s.after_224 (eqb-true a 224 e))
    (λ e. cond_both (λ (x : ℕ). x ≤ b) (eqb a 240) 144 128 (λ e. s.after_240 (eqb-true a 240 e)) (λ e. s.from)))

second_high : (a b : ℕ) → a < 256 → Second a b → b ≤ (second_range a).high
second_high a b h s =
    rw (high_by_lem a h)
    (cond_both (λ (x : ℕ). b ≤ x) (eqb a 237) 159 _ (λ e. s.after_237 (eqb-true a 237 e))
    (λ e. cond_both (λ (x : ℕ). b ≤ x) (eqb a 244) 143 191 (λ e. s.after_244 (eqb-true a 244 e)) (λ e. s.to)))

low_least : (a : ℕ) → 128 ≤ low_by a
low_least a =
    cond_both (λ (x : ℕ). 128 ≤ x) (eqb a 224) 160 _ (λ e. omega arith)
    (λ e. cond_both (λ (x : ℕ). 128 ≤ x) (eqb a 240) 144 128 (λ e. omega arith) (λ e. omega arith))

pub second_least : (a : ℕ) → a < 256 → 128 ≤ (second_range a).low
second_least a h = rw (low_by_lem a h) (low_least a)

high_most : (a : ℕ) → high_by a ≤ 191
high_most a =
    cond_both (λ (x : ℕ). x ≤ 191) (eqb a 237) 159 _ (λ e. omega arith)
    (λ e. cond_both (λ (x : ℕ). x ≤ 191) (eqb a 244) 143 191 (λ e. omega arith) (λ e. omega arith))

second_by : (a b : ℕ) → low_by a ≤ b → b ≤ high_by a → Second a b
second_by a b l u = record {
  from = omega (arith, low_least a);
  to = omega (arith, high_most a);
  after_224 = λ e. rw e at l;
  after_237 = λ e. rw e at u;
  after_240 = λ e. rw e at l;
  after_244 = λ e. rw e at u;
}

pub second_is : (a b : ℕ) → a < 256 → (second_range a).low ≤ b → b ≤ (second_range a).high → Second a b
second_is a b h l u = second_by a b (rw (low_by_lem a h) at l) (rw (high_by_lem a h) at u)

-- ---- a step of reading by the bytes that it meets

has_yes : (s : List ℕ) (i lo hi : ℕ) → i < length s → lo ≤ get_or s i 0 → get_or s i 0 ≤ hi → has_in s i lo hi ≡ true
unfolding has_in
has_yes s i lo hi h l u = simp (lt-ltb _ _ h, le-leb _ _ l, le-leb _ _ u)

module _ (s : List ℕ) (at a : ℕ) (ea : get_or s at 0 ≡ a) where
  pub step_1 : at < length s → a < 128 → step_at s at ≡ Scalar a (at + 1)
  step_1 h t =
      let n : sequence_length (get_or s at 0) ≡ 1 = rw ea (length_by_lem a (omega arith) ∙ simp (lt-ltb a 128 t)) in
      sym (one s at 1 h (sym n) refl) ∙ ap (λ (x : ℕ). Scalar x (at + 1)) ea

  module _ (b : ℕ) (eb : get_or s (at + 1) 0 ≡ b) (sec : Second a b) (top : a < 245) (h1 : at + 1 < length s) where
    has_second_lem : has_in s (at + 1) (second_range (get_or s at 0)).low (second_range (get_or s at 0)).high ≡ true
    has_second_lem = has_yes s (at + 1) _ _ h1 (rw (ea, eb) (second_low a b (omega arith) sec)) (rw (ea, eb) (second_high a b (omega arith) sec))

    pub step_2 : 194 ≤ a → a < 224 → step_at s at ≡ Scalar (a % 32 * 64 + b % 64) (at + 2)
    step_2 l t =
        let n : sequence_length (get_or s at 0) ≡ 2 = rw ea (length_by_lem a (omega arith) ∙ simp (le-ltb a 128 (omega arith), le-ltb a 194 l, lt-ltb a 224 t)) in
        rw (← ea, ← eb) (sym (two s at 2 (omega arith) (sym n) (λ e. omega arith) (λ e. omega arith) (second_range (get_or s at 0)) refl true (sym has_second_lem) refl refl (sym (value_2 s at))))

    module _ (c : ℕ) (ec : get_or s (at + 2) 0 ≡ c) (lc : 128 ≤ c) (uc : c ≤ 191) (h2 : at + 2 < length s) where
      has_third : has_in s (at + 2) 0x80 0xBF ≡ true
      has_third = has_yes s (at + 2) 0x80 0xBF h2 (rw ec lc) (rw ec uc)

      pub step_3 : 224 ≤ a → a < 240 → step_at s at ≡ Scalar (a % 16 * 4096 + b % 64 * 64 + c % 64) (at + 3)
      step_3 l t =
          let n : sequence_length (get_or s at 0) ≡ 3 = rw ea (length_by_lem a (omega arith) ∙ simp (le-ltb a 128 (omega arith), le-ltb a 194 (omega arith), le-ltb a 224 l, lt-ltb a 240 t)) in
          rw (← ea, ← eb, ← ec)
          (sym (three s at 3 (omega arith) (sym n) (λ e. omega arith) (λ e. omega arith) (second_range (get_or s at 0)) refl true (sym has_second_lem) refl (λ e. omega arith) true (sym has_third) refl refl (sym (value_3 s at))))

      pub step_4 : (d : ℕ) → get_or s (at + 3) 0 ≡ d → 128 ≤ d → d ≤ 191 → at + 3 < length s → 240 ≤ a
          → step_at s at ≡ Scalar (a % 8 * 262144 + b % 64 * 4096 + c % 64 * 64 + d % 64) (at + 4)
      step_4 d ed ld ud h3 l =
          let n : sequence_length (get_or s at 0) ≡ 4 = rw ea (length_by_lem a (omega arith) ∙ simp (le-ltb a 128 (omega arith), le-ltb a 194 (omega arith), le-ltb a 224 (omega arith), le-ltb a 240 l, lt-ltb a 245 top)) in
          rw (← ea, ← eb, ← ec, ← ed)
          (sym (four s at 4 (omega arith) (sym n) (λ e. omega arith) (λ e. omega arith) (second_range (get_or s at 0)) refl true (sym has_second_lem) refl (λ e. omega arith) true (sym has_third) refl (λ e. omega arith) true (sym (has_yes s (at + 3) 0x80 0xBF h3 (rw ed ld) (rw ed ud))) refl (sym (value_4 s at))))

-- the same as the code has it
pub ascii : (s : List ℕ) (at : ℕ) → at < length s → get_or s at 0 < 128 → Scalar (get_or s at 0) (at + 1) ≡ step_at s at
ascii s at h t = sym (step_1 s at (get_or s at 0) refl h t)

-- ---- the bytes of a scalar value

-- bytes of Table 3-7 are those of their scalar value
pub record Spells (v : ℕ) (w : List ℕ) : Type 0 where
  pub scalar : IsScalar v
  pub bytes : utf8 v ≡ w

pub spells_1 : (v : ℕ) → v < 128 → Spells v (v ∷ [])
spells_1 v h = record { scalar = record { top = omega arith; gap = gap_below v (omega arith) }; bytes = utf8_1 v h }

pub spells_2 : (v a b : ℕ) → v ≡ a % 32 * 64 + b % 64 → 194 ≤ a → a < 224 → 128 ≤ b → b ≤ 191 → Spells v (a ∷ b ∷ [])
spells_2 v a b e la ua lb ub = record {
  scalar = record { top = omega arith; gap = gap_below v (omega arith) };
  bytes = utf8_2 v (omega arith) (omega arith) ∙ ap₂ (λ (x y : ℕ). x ∷ y ∷ []) (omega arith) (omega arith);
}

pub spells_3 : (v a b c : ℕ) → v ≡ a % 16 * 4096 + b % 64 * 64 + c % 64 → 224 ≤ a → a < 240 → Second a b → 128 ≤ c → c ≤ 191 → Spells v (a ∷ b ∷ c ∷ [])
spells_3 v a b c e la ua s lc uc =
    let lb = s.from in
    let ub = s.to in
    let l : 0x800 ≤ v = equal_or a 224 (λ k. let m = s.after_224 k in omega arith) (λ n. omega arith) in
    record {
      scalar = record {
        top = omega arith;
        gap = equal_or a 237 (λ k. let m = s.after_237 k in gap_below v (omega arith))
            (λ n. equal_or (a / 237) 0 (λ k. gap_below v (omega arith)) (λ k. gap_above v (omega arith)));
      };
      bytes =
          utf8_3 v l (omega arith) ∙ ap₂ (λ (x : ℕ) (r : List ℕ). x ∷ r) (omega arith) (ap₂ (λ (x y : ℕ). x ∷ y ∷ []) (omega arith) (omega arith));
    }

pub spells_4 : (v a b c d : ℕ) → v ≡ a % 8 * 262144 + b % 64 * 4096 + c % 64 * 64 + d % 64 → 240 ≤ a → a < 245 → Second a b → 128 ≤ c → c ≤ 191 → 128 ≤ d → d ≤ 191
    → Spells v (a ∷ b ∷ c ∷ d ∷ [])
spells_4 v a b c d e la ua s lc uc ld ud =
    let lb = s.from in
    let ub = s.to in
    let l : 0x10000 ≤ v = equal_or a 240 (λ k. let m = s.after_240 k in omega arith) (λ n. omega arith) in
    let u : v < 0x110000 = equal_or a 244 (λ k. let m = s.after_244 k in omega arith) (λ n. omega arith) in
    record {
      scalar = record { top = u; gap = gap_above v (omega arith) };
      bytes =
          utf8_4 v l
          ∙ ap₂ (λ (x : ℕ) (r : List ℕ). x ∷ r) (omega arith)
          (ap₂ (λ (x : ℕ) (r : List ℕ). x ∷ r) (omega arith) (ap₂ (λ (x y : ℕ). x ∷ y ∷ []) (omega arith) (omega arith)));
    }
