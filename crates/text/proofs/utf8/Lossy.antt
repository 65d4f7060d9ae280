-- The loops that measure and write a repaired text.
-- Assumes nothing.
use mathlib.Core.Path.{◌≡◌, refl, ◌∙◌, sym, ap, ap₂}
use mathlib.Core.Bool.{Bool, true, false, cond, not}
use mathlib.Core.List.{List, [], ◌∷◌, flat_map}
use Rattle.std.specs.Prelude.{Option, Some, None, Ok, Err, Result as Reply, MatchOption}
use Rattle.std.specs.Option.{option_map}
use Prim.Native.Nat.{ℕ, ◌+◌, ◌-◌, ◌*◌, ◌/◌, ◌^◌, ◌≤◌, ◌<◌, min}
use native.Mathlib.Omega.{arith}
use borrow.Author.Tests.{lt-ltb, lt-leb, le-leb, leb-true, leb-false, ltb-true, ltb-false, not-true, not-false}
use borrow.Rule.Slice.PartMut.{mid_of, put_mid}
use lib.Dec.{leb, ltb}
use lib.ListN.{length, get_or, length-append}
use Rattle.text.specs.declared.utf8.Step.{Step}
use Rattle.text.specs.declared.utf8.Step.TheVariants.{Scalar, IllFormed, End}
use Rattle.text.specs.declared.utf8.LossySize.{LossySize}
use Rattle.text.specs.declared.utf8.Utf8Error.{Utf8Error}
use Rattle.text.specs.declared.error.MatError.TheVariants.{OutputTooShort}
use Rattle.text.specs.Buffer.{put, Puts, Places}
use Rattle.text.specs.Replies.{error_place, CountsUnits, lossy_size, lossy_length, WritesLossy}
use Rattle.text.specs.Result.{ok, error}
use Rattle.text.specs.Unicode.{is_scalar, utf8, utf8s}
use Rattle.text.specs.Utf8.{Part, sequence, ill_formed, step_at, parts_from, scalars_of, first_ill_formed, repaired, replaced_in, scalars8, lossy}
use Rattle.text.proofs.BufferLaws.{SoFar, Splits, put_front, part_put, fits_next, goes_on, begins, ends, placed_not, placed_whole, places_front}
use Rattle.text.proofs.utf8.Count.{valid_units}
use Rattle.text.proofs.LeadLaws.{ascii}
use Rattle.text.proofs.PartLaws.{StepsTo, step_reads, step_breaks, step_end, parts_end, parts_scalar, parts_ill_formed, parts_rule}
use Rattle.text.proofs.ScalarLaws.{scalar_is, is_scalar_lem, utf8s_cons}
use Rattle.text.proofs.TestLaws.{clash, equal_or, either}
use Rattle.text.proofs.Utf8Laws.{step_took, took_size, not_some, spelled, lossy_le}

-- what a step writes: the scalar value w, with k replaced parts
pub record Writes (s : List ℕ) (i next w k : ℕ) : Type 0 where
  pub advance : StepsTo s i next
  pub scalar : is_scalar w ≡ true
  pub parts : repaired (parts_from s i) ≡ w ∷ repaired (parts_from s next)
  pub count : replaced_in (parts_from s i) ≡ k + replaced_in (parts_from s next)

-- its bytes come first of the text that is left
pub splits : {s : List ℕ} {i next w k : ℕ} → Writes s i next w k → Splits (utf8s (repaired (parts_from s i))) (utf8 w) (utf8s (repaired (parts_from s next)))
splits {s} {i} {next} {w} x = record { is = ap utf8s x.parts ∙ utf8s_cons w (repaired (parts_from s next)) }

module _ (s : List ℕ) (i : ℕ) {x : Step} (e : x ≡ step_at s i) where
  pub writes_scalar : {v next : ℕ} → x ≡ Scalar v next → Writes s i next v 0
  unfolding repaired replaced_in
  writes_scalar {v} {next} g =
      let r = step_reads s i (sym e ∙ g) in
      let p = parts_scalar s i (sym e ∙ g) in
      record {
        advance = r.advance;
        scalar = is_scalar_lem (step_took s i v next r).scalar;
        parts = rw p;
        count = rw p (omega arith);
      }

  pub writes_replacement : {next : ℕ} → x ≡ IllFormed next → Writes s i next 0xFFFD 1
  unfolding repaired replaced_in
  writes_replacement {next} g =
      let p = parts_ill_formed s i (sym e ∙ g) in
      record { advance = (step_breaks s i (sym e ∙ g)).advance; scalar = refl; parts = rw p; count = rw p (omega arith) }

  pub nothing_left : x ≡ End → parts_from s i ≡ []
  nothing_left g = parts_end s i (step_end s i (sym e ∙ g))

pub replacement_size : length (utf8 0xFFFD) ≡ 3
unfolding utf8
replacement_size = refl

-- ---- measuring

-- a size of so many bytes and so many replaced parts
abbrev pub size : ℕ → ℕ → LossySize
size n k = record { bytes = n; replaced = k }

-- of the bytes before i, these are in ill-formed parts, and there are these replaced parts
pub record Measuring (s : List ℕ) (broken replaced i : ℕ) : Type 0 where
  pub bound : i ≤ length s
  pub few : replaced ≤ i
  pub kept : broken ≤ i
  pub sum : (i - broken) + 3 * replaced + length (utf8s (repaired (parts_from s i))) ≡ length (lossy s)
  pub count : replaced + replaced_in (parts_from s i) ≡ replaced_in (parts_from s 0)

module _ (s : List ℕ) where
  pub measure_start : Measuring s 0 0 0
  measure_start = record { bound = omega arith; few = omega arith; kept = omega arith; sum = omega arith; count = omega arith }

  module _ {broken replaced i : ℕ} (m : Measuring s broken replaced i) where
    split_size : {next w k : ℕ} → Writes s i next w k
        → length (utf8s (repaired (parts_from s i))) ≡ length (utf8 w) + length (utf8s (repaired (parts_from s next)))
    split_size {next} {w} x = ap length (splits x).is ∙ length-append (utf8 w) (utf8s (repaired (parts_from s next)))

    measure_scalar : {v next : ℕ} → step_at s i ≡ Scalar v next → Measuring s broken replaced next
    measure_scalar e =
        let x = writes_scalar s i refl e in
        let a = x.advance in
        record {
          bound = a.inside;
          few = omega (arith, a);
          kept = omega (arith, a);
          sum = omega (arith, split_size x, took_size (step_reads s i e));
          count = omega (arith, x.count);
        }

    pub measure_ascii : i < length s → get_or s i 0 < 128 → Measuring s broken replaced (i + 1)
    measure_ascii h b = measure_scalar (sym (ascii s i h b))

    module _ {x : Step} (e : x ≡ step_at s i) where
      pub measure_whole : {v next : ℕ} → x ≡ Scalar v next → Measuring s broken replaced next
      measure_whole g = measure_scalar (sym e ∙ g)

      pub measure_ill_formed : {next : ℕ} → x ≡ IllFormed next → Measuring s (broken + (next - i)) (replaced + 1) next
      measure_ill_formed g =
          let x = writes_replacement s i e g in
          let a = x.advance in
          record {
            bound = a.inside;
            few = omega (arith, a);
            kept = omega (arith, a);
            sum = omega (arith, split_size x, a, replacement_size);
            count = omega (arith, x.count);
          }

    module _ (h : length s ≤ i) where
      no_parts : parts_from s i ≡ []
      no_parts = parts_end s i h

      bytes_are : (i - broken) + 3 * replaced ≡ length (lossy s)
      unfolding repaired flat_map
      bytes_are = omega (arith, rw no_parts at m.sum)

      pub measure_over : ((i - broken) + 3 * replaced < 2 ^ 64 → ⊥) → None ≡ lossy_length s
      unfolding lossy_length
      measure_over n =
          either (ltb (length (lossy s)) (2 ^ 64)) (λ e. absurd (n (omega (arith, bytes_are, ltb-true (length (lossy s)) (2 ^ 64) e)))) (λ e. simp e)

      pub measure_last : {n : ℕ} → n ≡ (i - broken) + 3 * replaced → n < 2 ^ 64 → Some (size n replaced) ≡ lossy_length s
      unfolding lossy_length replaced_in
      measure_last e l =
          let r : replaced ≡ replaced_in (parts_from s 0) = omega (arith, rw no_parts at m.count) in
          simp (lt-ltb (length (lossy s)) (2 ^ 64) (omega (arith, bytes_are))) (ap₂ (λ (b n : ℕ). Some (size b n)) (e ∙ bytes_are) r)

  -- all before the first ill-formed part is kept
  pub measure_from : {at : ℕ} → first_ill_formed (parts_from s 0) ≡ Some at → Measuring s 0 0 at
  unfolding first_ill_formed
  measure_from {at} e =
      parts_rule s (λ (i : ℕ) (ps : List Part). first_ill_formed ps ≡ Some at → Measuring s 0 0 i → Measuring s 0 0 at)
      (λ i h g m. clash cc) (λ i v n t rest g m. rest g (measure_scalar m t))
      (λ i n t rest g m. let z : i ≡ at = cc in rw z at m) 0 e measure_start

-- ---- writing

-- the repaired text of s is written to the start of d₀, up to position i and index o
pub record Writing (s d₀ d : List ℕ) (i o : ℕ) : Type 0 where
  pub room : length (lossy s) ≤ length d₀
  pub so_far : SoFar (lossy s) (utf8s (repaired (parts_from s i))) d₀ d o

module _ (s : List ℕ) where
  pub write_start : (d : List ℕ) → length (lossy s) ≤ length d → Writing s d d 0 0
  write_start d h = record { room = h; so_far = begins (lossy s) d }

  module _ {d₀ d : List ℕ} {i o : ℕ} (t : Writing s d₀ d i o) where
    module _ {next w k : ℕ} (x : Writes s i next w k) where
      next_room : o + length (utf8 w) ≤ length d
      next_room = fits_next t.room (splits x) t.so_far

      write_on : {e : ℕ} {d' : List ℕ} → e ≡ o + length (utf8 w) → d' ≡ put d o (utf8 w) → Writing s d₀ d' next e
      write_on {e} {d'} p q = record { room = t.room; so_far = goes_on t.room (splits x) t.so_far d' e q p }

    module _ {x : Step} (e : x ≡ step_at s i) where
      module _ {v next : ℕ} (g : x ≡ Scalar v next) where
        pub scalar_top : v < 1114112
        scalar_top = (scalar_is v (writes_scalar s i e g).scalar).top

        pub scalar_room : o + length (utf8 v) ≤ length d
        scalar_room = next_room (writes_scalar s i e g)

        pub write_scalar : {r : ℕ} {d' : List ℕ} → r ≡ o + length (utf8 v) → d' ≡ put d o (utf8 v) → Writing s d₀ d' next r
        write_scalar p q = write_on (writes_scalar s i e g) p q

      module _ {next : ℕ} (g : x ≡ IllFormed next) where
        pub replacement_room : o + length (utf8 0xFFFD) ≤ length d
        replacement_room = next_room (writes_replacement s i e g)

        pub write_replacement : {r : ℕ} {d' : List ℕ} → r ≡ o + length (utf8 0xFFFD) → d' ≡ put d o (utf8 0xFFFD) → Writing s d₀ d' next r
        write_replacement p q = write_on (writes_replacement s i e g) p q

      pub write_last : x ≡ End → Puts d₀ 0 (lossy s) o d
      unfolding repaired flat_map
      write_last g =
          let f : SoFar (lossy s) [] d₀ d o = rw (nothing_left s i e g) at t.so_far in
          record { end = omega (arith, f.count); buffer = ends (lossy s) d₀ d o f ∙ sym (put_front d₀ (lossy s)) }

-- no more parts are replaced than there are bytes
replaced_from : (s : List ℕ) → (i : ℕ) → replaced_in (parts_from s i) ≤ length s - i
unfolding replaced_in
replaced_from s =
    parts_rule s (λ i ps. replaced_in ps ≤ length s - i) (λ i h. omega arith)
    (λ i v n t go. let a = (step_reads s i t).advance in omega (arith, go, a))
    (λ i n t go. let a = (step_breaks s i t).advance in omega (arith, go, a))

pub replaced_le : (s : List ℕ) → replaced_in (parts_from s 0) ≤ length s
replaced_le s = omega (arith, replaced_from s 0)

-- a text in which nothing is replaced is its own repaired text
whole_parts : (ps : List Part) → replaced_in ps ≡ 0 → scalars_of ps ≡ Some (repaired ps)
unfolding replaced_in scalars_of repaired
whole_parts [] e = refl
whole_parts (sequence v ∷ ps) e = ap (option_map (λ vs. v ∷ vs)) (whole_parts ps e)
whole_parts (ill_formed i ∷ ps) e = absurd (omega arith)

own_repair : (s : List ℕ) → replaced_in (parts_from s 0) ≡ 0 → s ≡ lossy s
own_repair s e = (spelled s (whole_parts (parts_from s 0) e)).bytes

no_replaced : (ps : List Part) → None ≡ first_ill_formed ps → replaced_in ps ≡ 0
unfolding first_ill_formed replaced_in
no_replaced [] e = refl
no_replaced (sequence v ∷ ps) e = no_replaced ps e
no_replaced (ill_formed i ∷ ps) e = clash cc

broken_parts : (ps : List Part) → (replaced_in ps ≡ 0 → ⊥) → scalars_of ps ≡ None
unfolding replaced_in scalars_of
broken_parts [] n = absurd (n refl)
broken_parts (sequence v ∷ ps) n = ap (option_map (λ vs. v ∷ vs)) (broken_parts ps n)
broken_parts (ill_formed i ∷ ps) n = refl

some_replaced : (ps : List Part) {i : ℕ} → Some i ≡ first_ill_formed ps → replaced_in ps ≡ 0 → ⊥
unfolding first_ill_formed replaced_in
some_replaced [] e z = not_some (sym e)
some_replaced (sequence v ∷ ps) e z = some_replaced ps e z
some_replaced (ill_formed j ∷ ps) e z = omega arith

-- a text is well-formed, and so has scalar values, exactly where nothing is replaced, and `validate` tells it
module _ (s : List ℕ) where
  pub none_replaced : replaced_in (parts_from s 0) ≡ 0 → scalars8 s ≡ Some (repaired (parts_from s 0))
  none_replaced z = whole_parts (parts_from s 0) z

  pub part_replaced : (replaced_in (parts_from s 0) ≡ 0 → ⊥) → scalars8 s ≡ None
  part_replaced n = broken_parts (parts_from s 0) n

  pub sound_replaced : {vs : List ℕ} → scalars8 s ≡ Some vs → replaced_in (parts_from s 0) ≡ 0
  sound_replaced e = equal_or (replaced_in (parts_from s 0)) 0 (λ z. z) (λ n. not_some (sym (part_replaced n) ∙ e))

  module _ {A : Type 0} {x : Reply A Utf8Error} (e : error_place x ≡ first_ill_formed (parts_from s 0)) where
    pub valid_scalars : {a : A} → x ≡ Ok a → scalars8 s ≡ Some (repaired (parts_from s 0))
    valid_scalars g = none_replaced (no_replaced (parts_from s 0) (sym (ap error_place g) ∙ e))

    pub invalid_scalars : {f : Utf8Error} → x ≡ Err f → scalars8 s ≡ None
    invalid_scalars g = part_replaced (some_replaced (parts_from s 0) (sym (ap error_place g) ∙ e))

-- ---- measuring by the count of code units, which finds the first ill-formed part

module _ (s : List ℕ) {x : Reply ℕ Utf8Error} (c : CountsUnits s x) where
  pub length_kept : {n : ℕ} → x ≡ Ok n → length s < 2 ^ 64 → Some (size (length s) 0) ≡ lossy_length s
  unfolding lossy_length
  length_kept e f =
      let z = no_replaced (parts_from s 0) (valid_units s c e) in
      let l = ap length (own_repair s z) in
      simp (sym l, z, lt-ltb (length s) (2 ^ 64) f)

-- ---- what a measured length says

module _ (s : List ℕ) {x : Option LossySize} (is : x ≡ lossy_length s) where
  pub length_is : {z : LossySize} → x ≡ Some z → (z ≡ lossy_size s) × (z.bytes < 2 ^ 64)
  unfolding lossy_length
  length_is {z} e = by (ltb (length (lossy s)) (2 ^ 64)) refl (sym is ∙ e)
    where
      by : (t : Bool) → ltb (length (lossy s)) (2 ^ 64) ≡ t → cond t (Some (lossy_size s)) None ≡ Some z → (z ≡ lossy_size s) × (z.bytes < 2 ^ 64)
      by true f k =
          let a : z ≡ lossy_size s = cc in
          (a, rw a (ltb-true (length (lossy s)) (2 ^ 64) f))
      by false f k = not_some k

  pub too_long_is : x ≡ None → 2 ^ 64 ≤ length (lossy s)
  unfolding lossy_length
  too_long_is e = by (ltb (length (lossy s)) (2 ^ 64)) refl (sym is ∙ e)
    where
      by : (t : Bool) → ltb (length (lossy s)) (2 ^ 64) ≡ t → cond t (Some (lossy_size s)) None ≡ None → 2 ^ 64 ≤ length (lossy s)
      by true f k = not_some (sym k)
      by false f k = ltb-false (length (lossy s)) (2 ^ 64) f

  -- ---- the returns of `lossy_fits`

  pub fits_measured : {r : Bool} (room : ℕ) → room < 2 ^ 64 → MatchOption x (r ≡ false) (λ z. r ≡ leb z.bytes room) → r ≡ leb (length (lossy s)) room
  fits_measured {r} room h m = by x refl m
    where
      by : (y : Option LossySize) → x ≡ y → MatchOption y (r ≡ false) (λ z. r ≡ leb z.bytes room) → r ≡ leb (length (lossy s)) room
      by (Some z) e k = k ∙ ap (λ (k : LossySize). leb k.bytes room) (length_is e).0
      by None e k = k ∙ sym (lt-leb (length (lossy s)) room (omega (arith, too_long_is e)))

pub fits_thrice : (s : List ℕ) (room : ℕ) → length s ≤ room / 3 → true ≡ leb (length (lossy s)) room
fits_thrice s room h = sym (le-leb (length (lossy s)) room (omega (arith, lossy_le s)))

-- ---- the returns of `put_lossy`

module _ (s d : List ℕ) (at : ℕ) {r : Bool} (h : at ≤ length d) (is : r ≡ leb (length (lossy s)) (length d - at)) where
  pub lossy_kept : not r ≡ true → Places d at (lossy s) at d
  lossy_kept n = placed_not d at (lossy s) (omega (arith, leb-false (length (lossy s)) (length d - at) (sym is ∙ not-true r n)))

  module _ (y : not r ≡ false) where
    lossy_inside : at + length (lossy s) ≤ length d
    lossy_inside = omega (arith, leb-true (length (lossy s)) (length d - at) (sym is ∙ not-false r y))

    pub lossy_placed : {n : ℕ} {part' : List ℕ} → Puts (mid_of at (length d - at) d) 0 (lossy s) n part'
        → Places d at (lossy s) (at + n) (put_mid at (length d - at) d part')
    lossy_placed p =
        placed_whole d at (lossy s) lossy_inside (record { end = omega (arith, p.end); buffer = part_put d (lossy s) at lossy_inside p })

-- ---- the returns of `write_lossy`

module _ (s out : List ℕ) {x : Option LossySize} (is : x ≡ lossy_length s) where
  pub lossy_short : {z : LossySize} → x ≡ Some z → length out < z.bytes → WritesLossy s out (Err (OutputTooShort z.bytes)) out
  lossy_short {z} e h =
      let l = length_is s is e in
      let n : z.bytes ≡ length (lossy s) = ap (λ (k : LossySize). k.bytes) l.0 in
      let t : leb (length (lossy s)) (length out) ≡ false = lt-leb (length (lossy s)) (length out) (omega arith) in
      let p : z.bytes ≡ min (length (lossy s)) (2 ^ 64 - 1) = omega (arith, l.1) in
      record { reply = simp t (ap (λ (k : ℕ). error (record { number = 34; place = k })) p); buffer = simp t }

  module _ {z : LossySize} (e : x ≡ Some z) (h : z.bytes ≤ length out) where
    bytes_is : z.bytes ≡ length (lossy s)
    bytes_is = ap (λ (k : LossySize). k.bytes) (length_is s is e).0

    pub lossy_room : length (lossy s) ≤ length out
    lossy_room = omega (arith, bytes_is)

    lossy_put : {out' : List ℕ} → out' ≡ put out 0 (lossy s) → WritesLossy s out (Ok z) out'
    lossy_put w =
        let t : leb (length (lossy s)) (length out) ≡ true = le-leb (length (lossy s)) (length out) (omega (arith, lossy_room)) in
        record { reply = simp t (ap ok (length_is s is e).0); buffer = simp t (w ∙ put_front out (lossy s)) }

    pub lossy_written : {o : ℕ} {out' : List ℕ} → Puts out 0 (lossy s) o out' → WritesLossy s out (Ok z) out'
    lossy_written w = lossy_put w.buffer

    -- the text itself is written where nothing is replaced
    module _ (y : z.replaced ≡ 0) where
      is_own : s ≡ lossy s
      is_own = own_repair s (sym (ap (λ (k : LossySize). k.replaced) (length_is s is e).0) ∙ y)

      pub lossy_own : {o : ℕ} {out' : List ℕ} → Places out 0 s o out' → WritesLossy s out (Ok z) out'
      lossy_own w = lossy_put (places_front out s (omega (arith, lossy_room, ap length is_own)) w ∙ ap (put out 0) is_own)

  pub lossy_past : length out < 2 ^ 64 - 1 → x ≡ None → WritesLossy s out (Err (OutputTooShort 18446744073709551615)) out
  lossy_past h e =
      let l = too_long_is s is e in
      let t : leb (length (lossy s)) (length out) ≡ false = lt-leb (length (lossy s)) (length out) (omega arith) in
      let p : 18446744073709551615 ≡ min (length (lossy s)) (2 ^ 64 - 1) = omega arith in
      record { reply = simp t (ap (λ (k : ℕ). error (record { number = 34; place = k })) p); buffer = simp t }
