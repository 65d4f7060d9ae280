-- Code units that writing packed into words are read back, whatever words stand before and after; and words that hold nothing but units are what
-- packing these gives.
-- Assumes nothing.
use mathlib.Core.Path.{◌≡◌, refl, ◌∙◌, ap, ap₂}
use mathlib.Core.List.{List, [], ◌∷◌, ◌++◌}
use Prim.Native.Nat.{ℕ, zero, suc, ◌+◌, ◌*◌, ◌/◌, ◌%◌, ◌^◌, ◌≤◌, ◌<◌}
use native.Mathlib.Nat.{zero-add}
use native.Mathlib.Omega.{arith}
use lib.ListN.{length, get_or, take, drop, length-append}
use lib.Seq.{get_or-append-add, get_or-drop, drop-cons, take_at, drop_at}
use Rattle.text.specs.Unicode.{Below}
use Rattle.writer.specs.Words.{packed}
use Rattle.writer.proofs.WordLaws.{packed_0, packed_1, packed_2, packed_3, packed_4}
use Rattle.reader.specs.Units.{unit_at, units_in}

unit_packed : (us x : List ℕ) → Below 65536 us → (k : ℕ) → k < length us → unit_at (packed us ++ x) 0 k ≡ get_or us k 0
unfolding unit_at
unit_packed [] x h k l = absurd (omega arith)
unit_packed (a ∷ []) x h zero l = rw (packed_1 a) (omega arith)
unit_packed (a ∷ []) x h (suc k) l = absurd (omega arith)
unit_packed (a ∷ b ∷ []) x h zero l = rw (packed_2 a b) (omega arith)
unit_packed (a ∷ b ∷ []) x h (suc zero) l = rw (packed_2 a b) (omega arith)
unit_packed (a ∷ b ∷ []) x h (suc (suc k)) l = absurd (omega arith)
unit_packed (a ∷ b ∷ c ∷ []) x h zero l = rw (packed_3 a b c) (omega arith)
unit_packed (a ∷ b ∷ c ∷ []) x h (suc zero) l = rw (packed_3 a b c) (omega arith)
unit_packed (a ∷ b ∷ c ∷ []) x h (suc (suc zero)) l = rw (packed_3 a b c) (omega arith)
unit_packed (a ∷ b ∷ c ∷ []) x h (suc (suc (suc k))) l = absurd (omega arith)
unit_packed (a ∷ b ∷ c ∷ d ∷ us) x h zero l = rw (packed_4 a b c d us) (omega arith)
unit_packed (a ∷ b ∷ c ∷ d ∷ us) x h (suc zero) l = rw (packed_4 a b c d us) (omega arith)
unit_packed (a ∷ b ∷ c ∷ d ∷ us) x h (suc (suc zero)) l = rw (packed_4 a b c d us) (omega arith)
unit_packed (a ∷ b ∷ c ∷ d ∷ us) x h (suc (suc (suc zero))) l = rw (packed_4 a b c d us) (omega arith)
unit_packed (a ∷ b ∷ c ∷ d ∷ us) x h (suc (suc (suc (suc k)))) l =
    let i : 0 + suc (suc (suc (suc k))) / 4 ≡ suc (0 + k / 4) = omega arith in
    let j : suc (suc (suc (suc k))) % 4 ≡ k % 4 = omega arith in
    rw (packed_4 a b c d us, i, j) (unit_packed us x h.1.1.1.1 k (omega arith))

-- with words before them
unit_within : (p us x : List ℕ) → Below 65536 us → (k : ℕ) → k < length us → unit_at (p ++ (packed us ++ x)) (length p) k ≡ get_or us k 0
unfolding unit_at
unit_within p us x h k l =
    let z : length p + k / 4 ≡ length p + (0 + k / 4) = omega arith in
    rw z (ap (λ (w : ℕ). w / 2 ^ (16 * (k % 4)) % 65536) (get_or-append-add p (packed us ++ x) (0 + k / 4) 0) ∙ unit_packed us x h k l)

-- the n units from unit k on
units_within : (p us x : List ℕ) → Below 65536 us → (n k : ℕ) → k + n ≤ length us → units_in (p ++ (packed us ++ x)) (length p) k n ≡ take n (drop k us)
unfolding units_in
units_within p us x b zero k h = refl
units_within p us x b (suc n) k h =
    rw (drop-cons us k 0 (omega arith)) (ap₂ ◌∷◌ (unit_within p us x b k (omega arith)) (units_within p us x b n (suc k) (omega arith)))

-- the units us of one string among those of all
pub part_within : (p before us after x : List ℕ) → Below 65536 (before ++ (us ++ after))
    → units_in (p ++ (packed (before ++ (us ++ after)) ++ x)) (length p) (length before) (length us) ≡ us
part_within p before us after x b =
    units_within p (before ++ (us ++ after)) x b (length us) (length before) (omega (arith, length-append before (us ++ after), length-append us after))
    ∙ ap (take (length us)) (drop_at before (us ++ after) (length before) refl)
    ∙ take_at us after (length us) refl

-- ---- words that hold nothing but units

-- the words after the first hold the units after the fourth
units_later : (x : ℕ) (w : List ℕ) (k n : ℕ) → units_in (x ∷ w) 0 (suc (suc (suc (suc k)))) n ≡ units_in w 0 k n
unfolding units_in unit_at
units_later x w k zero = refl
units_later x w k (suc n) =
    let i : 0 + suc (suc (suc (suc k))) / 4 ≡ suc (0 + k / 4) = omega arith in
    let j : suc (suc (suc (suc k))) % 4 ≡ k % 4 = omega arith in
    rw (i, j) (ap (λ (us : List ℕ). unit_at w 0 k ∷ us) (units_later x w (suc k) n))

pub units_drop : (w : List ℕ) (first k n : ℕ) → units_in w first k n ≡ units_in (drop first w) 0 k n
unfolding units_in unit_at
units_drop w first k zero = refl
units_drop w first k (suc n) =
    let z : 0 + k / 4 ≡ k / 4 = omega arith in
    rw (z, get_or-drop first w (k / 4) 0) (ap (λ (us : List ℕ). unit_at w first k ∷ us) (units_drop w first (suc k) n))

pub units_append : (w : List ℕ) (first k a b : ℕ) → units_in w first k (a + b) ≡ units_in w first k a ++ units_in w first (k + a) b
unfolding units_in
units_append w first k zero b =
    let z : k + 0 ≡ k = omega arith in
    rw (z, zero-add b)
units_append w first k (suc a) b =
    let s : suc a + b ≡ suc (a + b) = omega arith in
    let t : k + suc a ≡ suc k + a = omega arith in
    rw (s, t) (ap (λ (us : List ℕ). unit_at w first k ∷ us) (units_append w first (suc k) a b))

-- words that n units fill, with zeros after the last one, are what packing these units gives
pub repacked : (w : List ℕ) (n : ℕ) → ((i : ℕ) → get_or w i 0 < 2 ^ 64) → length w ≡ (n + 3) / 4 → get_or w (n / 4) 0 / 2 ^ (16 * (n % 4)) ≡ 0 → packed (units_in w 0 0 n) ≡ w
unfolding units_in unit_at
repacked [] zero b l z = packed_0
repacked [] (suc n) b l z = absurd (omega arith)
repacked (x ∷ w) zero b l z = absurd (omega arith)
repacked (x ∷ []) (suc zero) b l z = packed_1 _ ∙ ap (λ (y : ℕ). y ∷ []) (omega arith)
repacked (x ∷ []) (suc (suc zero)) b l z = packed_2 _ _ ∙ ap (λ (y : ℕ). y ∷ []) (omega arith)
repacked (x ∷ []) (suc (suc (suc zero))) b l z = packed_3 _ _ _ ∙ ap (λ (y : ℕ). y ∷ []) (omega arith)
repacked (x ∷ y ∷ w) (suc zero) b l z = absurd (omega arith)
repacked (x ∷ y ∷ w) (suc (suc zero)) b l z = absurd (omega arith)
repacked (x ∷ y ∷ w) (suc (suc (suc zero))) b l z = absurd (omega arith)
repacked (x ∷ w) (suc (suc (suc (suc n)))) b l z =
    let i : suc (suc (suc (suc n))) / 4 ≡ suc (n / 4) = omega arith in
    let j : suc (suc (suc (suc n))) % 4 ≡ n % 4 = omega arith in
    let h : x < 2 ^ 64 = b 0 in
    let r : x / 281474976710656 % 65536 ≡ x / 281474976710656 = omega arith in
    packed_4 _ _ _ _ _
    ∙ ap₂ (λ (y : ℕ) (r : List ℕ). y ∷ r) (omega arith)
    (ap packed (units_later x w 0 n) ∙ repacked w n (λ i. b (suc i)) (omega arith) (rw (i, j) at z))
