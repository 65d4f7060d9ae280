-- A list that a loop fills from its front on, one value at each turn.
-- Assumes nothing.
use mathlib.Core.Path.{◌≡◌, refl, ap, ◌∙◌}
use mathlib.Core.List.{List, [], ◌∷◌, ◌++◌}
use Prim.Native.Nat.{ℕ, ◌+◌, ◌<◌}
use native.Mathlib.Omega.{arith}
use lib.ListN.{length, get_or, set, take, drop}
use Rattle.std.proofs.lemmas.List.{append_assoc, append-nil, length-take-le, set_at, drop_more, drop_all, take_more, take_all, get_or_at}

-- the first i values stand over the front of the list as it was
pub record Fronts {A : Type 0} (xs old : List A) (i : ℕ) (now : List A) : Type 0 where
  pub is : now ≡ take i xs ++ drop i old

module _ {A : Type 0} {xs old : List A} where
  pub front_start : Fronts xs old 0 old
  front_start = record { is = refl }

  module _ {i : ℕ} {now : List A} (f : Fronts xs old i now) (h : i < length xs) (l : i < length old) (d : A) where
    -- the values before the next, and the others as they were
    split : now ≡ take i xs ++ get_or old i d ∷ drop (i + 1) old
    split = rw (← drop_more old i d l) f.is

    pub front_next : get_or now i d ≡ get_or old i d
    front_next = rw split (get_or_at (take i xs) (get_or old i d) (drop (i + 1) old) d i (length-take-le i xs (omega arith)))

    pub front_turn : {y : A} → y ≡ get_or xs i d → Fronts xs old (i + 1) (set now i y)
    front_turn {y} e = record {
      is = rw (split, take_more xs i d h, ← e, append_assoc (take i xs) (y ∷ []) (drop (i + 1) old))
          (set_at (take i xs) (get_or old i d) (drop (i + 1) old) y i (length-take-le i xs (omega arith)));
    }

  pub front_last : {now : List A} {i n : ℕ} → Fronts xs old i now → i ≡ n → length xs ≡ n → now ≡ xs ++ drop n old
  front_last {now} {i} {n} f z e = rw (← take_all n xs (omega arith), ← z) f.is

  -- where the values are as many as the places
  pub front_all : {now : List A} {i n : ℕ} → Fronts xs old i now → i ≡ n → length xs ≡ n → length old ≡ n → now ≡ xs
  front_all {now} {i} {n} f z e l = front_last f z e ∙ ap (λ (d : List A). xs ++ d) (drop_all n old (omega arith)) ∙ append-nil xs
