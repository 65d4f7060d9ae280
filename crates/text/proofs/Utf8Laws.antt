-- UTF-8: what was encoded is read back, what is read was encoded, and the repaired text.
-- Assumes nothing.
use Rattle.std.specs.Option.{option_map}
use mathlib.Core.Path.{◌≡◌, refl, ◌∙◌, sym, ap, ap₂}
use mathlib.Core.Bool.{Bool, true, false, cond}
use mathlib.Core.List.{List, [], ◌∷◌, ◌++◌, append_assoc, append-nil, map, flat_map}
use Rattle.std.specs.Prelude.{Option, Some, None}
use Prim.Native.Nat.{ℕ, suc, ◌+◌, ◌-◌, ◌*◌, ◌/◌, ◌%◌, ◌≤◌, ◌<◌}
use native.Mathlib.Omega.{arith}
use borrow.Author.Tests.{ltb-true, leb-true, leb-false, eqb-true, eqb-false}
use lib.Dec.{ltb, leb, eqb}
use lib.ListN.{length, get_or, drop, length-append, length-drop, drop_of_length-le}
use lib.Seq.{get_or-append-add, get_or-append_seam, drop-cons}
use Rattle.text.specs.declared.utf8.Step.TheVariants.{Scalar}
use Rattle.text.specs.Unicode.{utf8, utf8s}
use Rattle.text.specs.Utf8.{sequence_length, second_range, has_in, matched, whole_at, next_at, value_at, step_at, Part, sequence, ill_formed, parts_from, scalars_of, repaired, scalars8, lossy}
use Rattle.text.proofs.LeadLaws.{Lead, lead_range, starts_byte, Second, second_is, step_1, step_2, step_3, step_4, Spells, spells_1, spells_2, spells_3, spells_4}
use Rattle.text.proofs.PartLaws.{Reads, step_reads, step_breaks, parts_end, parts_scalar, parts_rule}
use Rattle.text.proofs.ScalarLaws.{IsScalar, Scalars, gap_cases, gap_above, by_size, utf8_1, utf8_2, utf8_3, utf8_4}
use Rattle.text.proofs.TestLaws.{clash, and_is, within_is}

-- ---- what was encoded is read back

-- in parts: in one, `omega` meets its bounds
digits_4 : (z b c d : ℕ) → z < 8 → b < 64 → c < 64 → d < 64
    → (0xF0 + z) % 8 * 262144 + (0x80 + b) % 64 * 4096 + (0x80 + c) % 64 * 64 + (0x80 + d) % 64 ≡ z * 262144 + b * 4096 + c * 64 + d
digits_4 z b c d hz hb hc hd =
    let ez : (0xF0 + z) % 8 ≡ z = omega arith in
    let eb : (0x80 + b) % 64 ≡ b = omega arith in
    let ec : (0x80 + c) % 64 ≡ c = omega arith in
    let ed : (0x80 + d) % 64 ≡ d = omega arith in
    rw (ez, eb, ec, ed)

value_4 : (v : ℕ) → v < 0x110000
    → (0xF0 + v / 262144) % 8 * 262144 + (0x80 + v / 4096 % 64) % 64 * 4096 + (0x80 + v / 64 % 64) % 64 * 64 + (0x80 + v % 64) % 64 ≡ v
value_4 v u =
    let d : v ≡ v / 64 * 64 + v % 64 = omega arith in
    let c : v / 64 ≡ v / 4096 * 64 + v / 64 % 64 = omega arith in
    let b : v / 4096 ≡ v / 262144 * 64 + v / 4096 % 64 = omega arith in
    digits_4 (v / 262144) (v / 4096 % 64) (v / 64 % 64) (v % 64) (omega arith) (omega arith) (omega arith) (omega arith) ∙ last v (v / 64) (v / 4096) (v / 262144) (v / 4096 % 64) (v / 64 % 64) (v % 64) d c b
  where
    last : (v x y z b c d : ℕ) → v ≡ x * 64 + d → x ≡ y * 64 + c → y ≡ z * 64 + b → z * 262144 + b * 4096 + c * 64 + d ≡ v
    last v x y z b c d e f g = omega arith

module _ (p q : List ℕ) (v : ℕ) (sc : IsScalar v) where
  abbrev Back : List ℕ → Type 0
  Back w = step_at (p ++ (w ++ q)) (length p) ≡ Scalar v (length p + length w)

  back_1 : v < 0x80 → Back (v ∷ [])
  back_1 h =
      let s : List ℕ = p ++ (v ∷ q) in
      let l : length s ≡ length p + suc (length q) = length-append p (v ∷ q) in
      step_1 s (length p) v (get_or-append_seam p v q 0) (omega arith) h

  back_2 : 0x80 ≤ v → v < 0x800 → Back ((0xC0 + v / 64) ∷ (0x80 + v % 64) ∷ [])
  back_2 l u =
      let a : ℕ = 0xC0 + v / 64 in
      let b : ℕ = 0x80 + v % 64 in
      let s : List ℕ = p ++ (a ∷ b ∷ q) in
      let n : length s ≡ length p + suc (suc (length q)) = length-append p (a ∷ b ∷ q) in
      let sec : Second a b = record { from = omega arith; to = omega arith; after_224 = λ e. absurd (omega arith); after_237 = λ e. absurd (omega arith); after_240 = λ e. absurd (omega arith); after_244 = λ e. absurd (omega arith) } in
      let val : a % 32 * 64 + b % 64 ≡ v = omega arith in
      step_2 s (length p) a (get_or-append_seam p a (b ∷ q) 0) b (get_or-append-add p (a ∷ b ∷ q) 1 0) sec (omega arith) (omega arith) (omega arith) (omega arith)
      ∙ ap (λ (x : ℕ). Scalar x (length p + 2)) val

  back_3 : 0x800 ≤ v → v < 0x10000 → Back ((0xE0 + v / 4096) ∷ (0x80 + v / 64 % 64) ∷ (0x80 + v % 64) ∷ [])
  back_3 l u =
      let a : ℕ = 0xE0 + v / 4096 in
      let b : ℕ = 0x80 + v / 64 % 64 in
      let c : ℕ = 0x80 + v % 64 in
      let s : List ℕ = p ++ (a ∷ b ∷ c ∷ q) in
      let n : length s ≡ length p + suc (suc (suc (length q))) = length-append p (a ∷ b ∷ c ∷ q) in
      let sec : Second a b = record {
        from = omega arith;
        to = omega arith;
        after_224 = λ e. omega arith;
        after_237 = λ e. gap_cases v sc.gap (λ k. omega arith) (λ k. absurd (omega arith));
        after_240 = λ e. absurd (omega arith);
        after_244 = λ e. absurd (omega arith);
      } in
      let val : a % 16 * 4096 + b % 64 * 64 + c % 64 ≡ v = omega arith in
      step_3 s (length p) a (get_or-append_seam p a (b ∷ c ∷ q) 0) b (get_or-append-add p (a ∷ b ∷ c ∷ q) 1 0) sec (omega arith) (omega arith)
      c (get_or-append-add p (a ∷ b ∷ c ∷ q) 2 0) (omega arith) (omega arith) (omega arith) (omega arith) (omega arith)
      ∙ ap (λ (x : ℕ). Scalar x (length p + 3)) val

  back_4 : 0x10000 ≤ v → Back ((0xF0 + v / 262144) ∷ (0x80 + v / 4096 % 64) ∷ (0x80 + v / 64 % 64) ∷ (0x80 + v % 64) ∷ [])
  back_4 l =
      let u = sc.top in
      let a : ℕ = 0xF0 + v / 262144 in
      let b : ℕ = 0x80 + v / 4096 % 64 in
      let c : ℕ = 0x80 + v / 64 % 64 in
      let d : ℕ = 0x80 + v % 64 in
      let s : List ℕ = p ++ (a ∷ b ∷ c ∷ d ∷ q) in
      let n : length s ≡ length p + suc (suc (suc (suc (length q)))) = length-append p (a ∷ b ∷ c ∷ d ∷ q) in
      let sec : Second a b = record {
        from = omega arith;
        to = omega arith;
        after_224 = λ e. absurd (omega arith);
        after_237 = λ e. absurd (omega arith);
        after_240 = λ e. omega arith;
        after_244 = λ e. omega arith;
      } in
      let val : a % 8 * 262144 + b % 64 * 4096 + c % 64 * 64 + d % 64 ≡ v = value_4 v u in
      step_4 s (length p) a (get_or-append_seam p a (b ∷ c ∷ d ∷ q) 0) b (get_or-append-add p (a ∷ b ∷ c ∷ d ∷ q) 1 0) sec (omega arith) (omega arith)
      c (get_or-append-add p (a ∷ b ∷ c ∷ d ∷ q) 2 0) (omega arith) (omega arith) (omega arith)
      d (get_or-append-add p (a ∷ b ∷ c ∷ d ∷ q) 3 0) (omega arith) (omega arith) (omega arith) (omega arith)
      ∙ ap (λ (x : ℕ). Scalar x (length p + 4)) val

  -- the bytes of a scalar value, anywhere in a text, are read as that value
  pub step_utf8 : Back (utf8 v)
  step_utf8 =
      by_size v (λ h. rw (utf8_1 v h) (back_1 h)) (λ l h. rw (utf8_2 v l h) (back_2 l h)) (λ l h. rw (utf8_3 v l h) (back_3 l h))
      (λ l. rw (utf8_4 v l) (back_4 l))

parts_after : (p vs : List ℕ) → Scalars vs → parts_from (p ++ utf8s vs) (length p) ≡ map sequence vs
unfolding flat_map
parts_after p [] h = parts_end (p ++ []) (length p) (simp append-nil (omega arith))
parts_after p (v ∷ vs) h =
    let e : p ++ (utf8 v ++ utf8s vs) ≡ (p ++ utf8 v) ++ utf8s vs = sym (append_assoc p (utf8 v) (utf8s vs)) in
    parts_scalar (p ++ (utf8 v ++ utf8s vs)) (length p) (step_utf8 p (utf8s vs) v h.0)
    ∙ ap₂ (λ (s : List ℕ) (k : ℕ). sequence v ∷ parts_from s k) e (sym (length-append p (utf8 v)))
    ∙ ap (λ (ps : List Part). sequence v ∷ ps) (parts_after (p ++ utf8 v) vs h.1)

-- the parts of an encoded text are its sequences
pub parts_utf8s : (vs : List ℕ) → Scalars vs → parts_from (utf8s vs) 0 ≡ map sequence vs
parts_utf8s vs h = parts_after [] vs h

scalars_of_sequences : (vs : List ℕ) → scalars_of (map sequence vs) ≡ Some vs
unfolding scalars_of
scalars_of_sequences [] = refl
scalars_of_sequences (v ∷ vs) = rw (scalars_of_sequences vs)

pub scalars8_utf8s : (vs : List ℕ) → Scalars vs → scalars8 (utf8s vs) ≡ Some vs
scalars8_utf8s vs h = ap scalars_of (parts_utf8s vs h) ∙ scalars_of_sequences vs

pub scalars8_empty : scalars8 [] ≡ Some []
unfolding flat_map
scalars8_empty = scalars8_utf8s [] tt

-- ---- what is read was encoded

pub has_is : (s : List ℕ) (i lo hi : ℕ) → has_in s i lo hi ≡ true → (i < length s) × (lo ≤ get_or s i 0) × (get_or s i 0 ≤ hi)
unfolding has_in
has_is s i lo hi e =
    let p = and_is (ltb i (length s)) _ e in
    let q = within_is lo hi (get_or s i 0) p.1 in
    (ltb-true _ _ p.0, q.0, q.1)

-- a whole row, by its length: the tests of `matched` in their order
whole_by : {P : Type 0} (n : ℕ) (h i j : Bool) (t u v : Bool) → leb n 1 ≡ t → eqb n 2 ≡ u → eqb n 3 ≡ v → 0 < n
    → cond t n (cond h (cond u 2 (cond i (cond v 3 (cond j 4 3)) 2)) 1) ≡ n
    → (n ≡ 1 → P) → (n ≡ 2 → h ≡ true → P) → (n ≡ 3 → h ≡ true → i ≡ true → P) → (n ≡ 4 → h ≡ true → i ≡ true → j ≡ true → P) → P
whole_by n h i j true u v et eu ev p e f1 f2 f3 f4 = f1 (omega (arith, leb-true n 1 et))
whole_by n false i j false u v et eu ev p e f1 f2 f3 f4 = absurd (omega (arith, leb-false n 1 et))
whole_by n true i j false true v et eu ev p e f1 f2 f3 f4 = f2 (sym e) refl
whole_by n true false j false false v et eu ev p e f1 f2 f3 f4 = absurd (eqb-false n 2 eu (sym e))
whole_by n true true j false false true et eu ev p e f1 f2 f3 f4 = f3 (sym e) refl refl
whole_by n true true true false false false et eu ev p e f1 f2 f3 f4 = f4 (sym e) refl refl refl
whole_by n true true false false false false et eu ev p e f1 f2 f3 f4 = absurd (eqb-false n 3 ev (sym e))

drop_next : (s : List ℕ) (i j : ℕ) → i < length s → j ≡ suc i → drop i s ≡ get_or s i 0 ∷ drop j s
drop_next s i j h e = rw e (drop-cons s i 0 h)

-- what a step that read v took from s
pub record Took (s : List ℕ) (at v next : ℕ) : Type 0 where
  pub scalar : IsScalar v
  pub rest : drop at s ≡ utf8 v ++ drop next s

module _ (s : List ℕ) (at v next : ℕ) (r : Reads s at v next) where
  took : {w : List ℕ} → Spells v w → drop at s ≡ w ++ drop next s → Took s at v next
  took p e = record { scalar = p.scalar; rest = rw p.bytes e }

  pub starts : 0 < sequence_length (get_or s at 0)
  unfolding whole_at
  starts = ltb-true _ _ (and_is (ltb 0 (sequence_length (get_or s at 0))) _ r.whole).0

  all_matched : matched s at ≡ sequence_length (get_or s at 0)
  unfolding whole_at
  all_matched = eqb-true _ _ (and_is (ltb 0 (sequence_length (get_or s at 0))) _ r.whole).1

  pub value_is : (k : ℕ) → sequence_length (get_or s at 0) ≡ k → v ≡ value_at s at k
  value_is k e = r.value ∙ ap (value_at s at) (all_matched ∙ e)

  pub next_after : (k : ℕ) → sequence_length (get_or s at 0) ≡ k → 0 < k → next ≡ at + k
  unfolding next_at
  next_after k e h = omega (arith, r.advance.next_is, all_matched)

  byte : get_or s at 0 < 256
  byte = starts_byte (get_or s at 0) starts

  lead : (k : ℕ) → sequence_length (get_or s at 0) ≡ k → Lead k (get_or s at 0)
  lead k e = lead_range (get_or s at 0) byte k (sym e) (omega (arith, starts))

  took_1 : sequence_length (get_or s at 0) ≡ 1 → Took s at v next
  unfolding value_at
  took_1 e =
      let l = lead 1 e in
      let w : v ≡ get_or s at 0 = value_is 1 e in
      let p : Spells v (get_or s at 0 ∷ []) = rw (← w) (spells_1 v (omega (arith, l.to))) in
      took p (drop_next s at next r.advance.here (omega (arith, next_after 1 e (omega arith))))

  module _ (h : has_in s (at + 1) (second_range (get_or s at 0)).low (second_range (get_or s at 0)).high ≡ true) where
    in_second : at + 1 < length s
    in_second = (has_is s (at + 1) _ _ h).0

    second : Second (get_or s at 0) (get_or s (at + 1) 0)
    second = let q = has_is s (at + 1) _ _ h in second_is (get_or s at 0) (get_or s (at + 1) 0) byte q.1 q.2

    took_2 : sequence_length (get_or s at 0) ≡ 2 → Took s at v next
    unfolding value_at
    took_2 e =
        let l = lead 2 e in
        let x = second in
        took (spells_2 v (get_or s at 0) (get_or s (at + 1) 0) (value_is 2 e) l.from l.to x.from x.to)
        (drop_next s at (at + 1) r.advance.here (omega arith)
        ∙ ap (λ (d : List ℕ). get_or s at 0 ∷ d) (drop_next s (at + 1) next in_second (omega (arith, next_after 2 e (omega arith)))))

    module _ (i : has_in s (at + 2) 0x80 0xBF ≡ true) where
      took_3 : sequence_length (get_or s at 0) ≡ 3 → Took s at v next
      unfolding value_at
      took_3 e =
          let l = lead 3 e in
          let q = has_is s (at + 2) 0x80 0xBF i in
          took (spells_3 v (get_or s at 0) (get_or s (at + 1) 0) (get_or s (at + 2) 0) (value_is 3 e) l.from l.to second q.1 q.2)
          (drop_next s at (at + 1) r.advance.here (omega arith)
          ∙ ap (λ (d : List ℕ). get_or s at 0 ∷ d)
          (drop_next s (at + 1) (at + 2) in_second (omega arith)
          ∙ ap (λ (d : List ℕ). get_or s (at + 1) 0 ∷ d) (drop_next s (at + 2) next q.0 (omega (arith, next_after 3 e (omega arith))))))

      took_4 : has_in s (at + 3) 0x80 0xBF ≡ true → sequence_length (get_or s at 0) ≡ 4 → Took s at v next
      unfolding value_at
      took_4 j e =
          let l = lead 4 e in
          let q = has_is s (at + 2) 0x80 0xBF i in
          let w = has_is s (at + 3) 0x80 0xBF j in
          took (spells_4 v (get_or s at 0) (get_or s (at + 1) 0) (get_or s (at + 2) 0) (get_or s (at + 3) 0) (value_is 4 e) l.from l.to second q.1 q.2 w.1 w.2)
          (drop_next s at (at + 1) r.advance.here (omega arith)
          ∙ ap (λ (d : List ℕ). get_or s at 0 ∷ d)
          (drop_next s (at + 1) (at + 2) in_second (omega arith)
          ∙ ap (λ (d : List ℕ). get_or s (at + 1) 0 ∷ d)
          (drop_next s (at + 2) (at + 3) q.0 (omega arith)
          ∙ ap (λ (d : List ℕ). get_or s (at + 2) 0 ∷ d) (drop_next s (at + 3) next w.0 (omega (arith, next_after 4 e (omega arith)))))))

  -- a step that read a scalar value took its bytes
  pub step_took : Took s at v next
  unfolding matched
  step_took =
      let n : ℕ = sequence_length (get_or s at 0) in
      whole_by n (has_in s (at + 1) (second_range (get_or s at 0)).low (second_range (get_or s at 0)).high) (has_in s (at + 2) 0x80 0xBF) (has_in s (at + 3) 0x80 0xBF)
      (leb n 1) (eqb n 2) (eqb n 3) refl refl refl starts all_matched took_1 (λ e h. took_2 h e) (λ e h i. took_3 h i e) (λ e h i j. took_4 h i j e)

-- and as many
pub took_size : {s : List ℕ} {i v next : ℕ} → Reads s i v next → next ≡ i + length (utf8 v)
took_size {s} {i} {v} {next} r =
    let a = r.advance in
    let e = ap length (step_took s i v next r).rest in
    omega (arith, a, simp (length-drop, length-append) at e)

-- ---- over a whole text

pub map_is : {A B : Type 0} (f : A → B) (m : Option A) {y : B} → option_map f m ≡ Some y → (x : A) × ((m ≡ Some x) × (y ≡ f x))
map_is f (Some x) e = (x, (refl, cc))
map_is f None {y} e = clash cc

pub not_some {ℓ} : {P : Type ℓ} {A : Type 0} {y : A} → None ≡ Some y → P
not_some {P} {A} {y} e = clash cc

-- what is read was encoded
pub record Spelled (s vs : List ℕ) : Type 0 where
  pub scalars : Scalars vs
  pub bytes : s ≡ utf8s vs

spelled_from : (s : List ℕ) → (i : ℕ) → (vs : List ℕ) → scalars_of (parts_from s i) ≡ Some vs → Spelled (drop i s) vs
unfolding scalars_of flat_map
spelled_from s =
    parts_rule s (λ i ps. (vs : List ℕ) → scalars_of ps ≡ Some vs → Spelled (drop i s) vs)
    (λ i h vs e. let n : vs ≡ [] = cc in rw n (record { scalars = tt; bytes = drop_of_length-le s h }))
    (λ i v n t go vs e.
    let o = map_is (λ us. v ∷ us) (scalars_of (parts_from s n)) e in
    let k = step_took s i v n (step_reads s i t) in
    let r = go o.0 o.1.0 in
    rw o.1.1 (record { scalars = (k.scalar, r.scalars); bytes = k.rest ∙ ap (λ (d : List ℕ). utf8 v ++ d) r.bytes }))
    (λ i n t go vs e. not_some e)

pub spelled : (s : List ℕ) → {vs : List ℕ} → scalars8 s ≡ Some vs → Spelled s vs
spelled s {vs} e = spelled_from s 0 vs e

-- ---- the repaired text

repaired_from : (s : List ℕ) → (i : ℕ) → Scalars (repaired (parts_from s i))
unfolding repaired
repaired_from s =
    parts_rule s (λ i ps. Scalars (repaired ps)) (λ i h. tt) (λ i v n t go. ((step_took s i v n (step_reads s i t)).scalar, go))
    (λ i n t go. (record { top = omega arith; gap = gap_above 0xFFFD (omega arith) }, go))

repaired_scalars : (s : List ℕ) → Scalars (repaired (parts_from s 0))
repaired_scalars s = repaired_from s 0

-- a repaired text is well-formed
pub lossy_well_formed : (s : List ℕ) → scalars8 (lossy s) ≡ Some (repaired (parts_from s 0))
lossy_well_formed s = scalars8_utf8s (repaired (parts_from s 0)) (repaired_scalars s)

repaired_same : (ps : List Part) (vs : List ℕ) → scalars_of ps ≡ Some vs → repaired ps ≡ vs
unfolding scalars_of repaired
repaired_same [] vs e = cc
repaired_same (sequence v ∷ ps) vs e =
    let o = map_is (λ us. v ∷ us) (scalars_of ps) e in
    rw o.1.1 (ap (λ (us : List ℕ). v ∷ us) (repaired_same ps o.0 o.1.0))
repaired_same (ill_formed i ∷ ps) vs e = not_some e

-- the repaired text of a well-formed one is itself
pub lossy_same : (s : List ℕ) → {vs : List ℕ} → scalars8 s ≡ Some vs → lossy s ≡ s
lossy_same s {vs} e = ap utf8s (repaired_same (parts_from s 0) vs e) ∙ sym (spelled s e).bytes

lossy_from : (s : List ℕ) → (i : ℕ) → length (utf8s (repaired (parts_from s i))) ≤ 3 * (length s - i)
unfolding repaired flat_map
lossy_from s =
    parts_rule s (λ i ps. length (utf8s (repaired ps)) ≤ 3 * (length s - i)) (λ i h. omega arith)
    (λ i v n t go.
    let k = step_took s i v n (step_reads s i t) in
    let a = (step_reads s i t).advance in
    let e = ap length k.rest in
    simp length-append (omega (arith, go, a, simp (length-drop, length-append) at e)))
    (λ i n t go.
    let a = (step_breaks s i t).advance in
    let w : length (utf8 0xFFFD) ≡ 3 = ap length (utf8_3 0xFFFD (omega arith) (omega arith)) in
    simp length-append (omega (arith, go, a, w)))

-- and at most three times as long as what it repairs
pub lossy_le : (s : List ℕ) → length (lossy s) ≤ 3 * length s
lossy_le s = omega (arith, lossy_from s 0)
