-- Writing the text of code units in words: `put_text` and its leaves.
-- Assumes nothing.
use mathlib.Core.Path.{◌≡◌, refl, ◌∙◌, sym, ap, ap₂, subst}
use mathlib.Core.Bool.{Bool, true, false, not}
use mathlib.Core.List.{List, [], ◌∷◌, ◌++◌}
use Rattle.std.specs.Prelude.{Some}
use Rattle.std.proofs.lemmas.Option.{same_Some}
use Prim.Native.Nat.{ℕ, ◌+◌, ◌-◌, ◌/◌, ◌%◌, ◌^◌, ◌≤◌, ◌<◌}
use native.Mathlib.Omega.{arith}
use borrow.Author.Tests.{not-true, not-false}
use borrow.Rule.Slice.PartMut.{put_mid, mid_of}
use lib.ListN.{length, get_or, take, drop, set, length-drop, drop_of_length-le}
use lib.Seq.{length-take-le}
use Rattle.text.specs.Buffer.{Puts}
use Rattle.text.specs.Unicode.{is_high_surrogate, is_low_surrogate, is_surrogate, utf8, utf8s}
use Rattle.text.specs.Utf16.{pair_value, scalar, scalars16, the_text}
use Rattle.text.specs.Stages.Utf16.{unit_step_at}
use Rattle.text.proofs.BufferLaws.{SoFar, Splits, part_put, fits_next, goes_on, fits_from, begins_from, ends_from}
use Rattle.text.proofs.ByteLaws.{size_1, size_2, size_3, size_4, writes_1, writes_2, writes_3, writes_4}
use Rattle.text.proofs.utf16.Decode.{Reading, found, found_unpaired, reads_on}
use Rattle.text.proofs.ScalarLaws.{utf8s_nil, utf8s_cons}
use Rattle.text.proofs.TestLaws.{within_is}
use Rattle.text.proofs.Utf8Laws.{map_is, not_some}
use Rattle.text.proofs.Utf16Laws.{scalars16_nil}
use Rattle.reader.specs.Units.{unit_at, units_in}
use Rattle.reader.specs.Stages.Units.{UnitsInside, UnitsFit, TwoFit, ThreeFit, PairFits}
use Rattle.reader.proofs.units.Laws.{length_units, reads_units, unit_of, Pair, pair_by, step_single, step_one}

-- ---- the returns of `put_two`, `put_three` and `put_pair`

module _ (d : List ℕ) where
  pub two_puts : (u : ℕ) → TwoFit u (length d) → Puts d 0 (utf8 u) 2 (set (set d 0 (0xC0 + u / 64)) 1 (0x80 + u % 64))
  two_puts u f =
      let z = size_2 u f.least f.most in
      record { end = omega (arith, z); buffer = writes_2 u d 0 f.least f.most (omega (arith, f.fits, z)) }

  pub three_puts : (u : ℕ) → ThreeFit u (length d) → u < 2 ^ 16
      → Puts d 0 (utf8 u) 3 (set (set (set d 0 (0xE0 + u / 4096)) 1 (0x80 + u / 64 % 64)) 2 (0x80 + u % 64))
  three_puts u f b =
      let z = size_3 u f.least b in
      record { end = omega (arith, z); buffer = writes_3 u d 0 f.least b (omega (arith, f.fits, z)) }

  pub pair_puts : (h l : ℕ) → PairFits h l (length d) → {v : ℕ} → v ≡ pair_value h l
      → Puts d 0 (utf8 (pair_value h l)) 4
      (set (set (set (set d 0 (0xF0 + v / 262144)) 1 (0x80 + v / 4096 % 64)) 2 (0x80 + v / 64 % 64)) 3 (0x80 + v % 64))
  pair_puts h l f {v} e =
      let least : 0x10000 ≤ v = omega (arith, f) in
      let z = size_4 v least in
      rw (← e) (record { end = omega (arith, z); buffer = writes_4 v d 0 least (omega (arith, f.fits, z)) })

-- ---- the loop of `put_text`

-- the text of the n units from unit k on is written at the start of d₀, up to unit i, after j of them, and index o
pub record Writing (w : List ℕ) (first k n : ℕ) (d₀ d : List ℕ) (i o : ℕ) : Type 0 where
  pub j : ℕ
  pub is : i ≡ k + j
  pub reading : Reading (units_in w first k n) j
  pub more : List ℕ
  pub rest : scalars16 (drop j (units_in w first k n)) ≡ Some more
  pub room : 0 + length (the_text (units_in w first k n)) ≤ length d₀
  pub so_far : SoFar (take 0 d₀ ++ the_text (units_in w first k n)) (utf8s more) d₀ d o

pub write_start : (w : List ℕ) (first k n : ℕ) {d : List ℕ} → UnitsFit w first k n (length d) → Writing w first k n d d k 0
write_start w first k n {d} f =
    let m = map_is utf8s (scalars16 (units_in w first k n)) f.is_text_lem in
    record {
      j = 0;
      is = omega arith;
      reading = reads_units w first k n;
      more = m.0;
      rest = m.1.0;
      room = omega (arith, f.fits);
      so_far = subst (λ (r : List ℕ). SoFar (take 0 d ++ the_text (units_in w first k n)) r d d 0) m.1.1 (begins_from d (the_text (units_in w first k n)) 0 (omega (arith, f.fits)));
    }

module _ {w : List ℕ} {first k n : ℕ} {d₀ d : List ℕ} {i o : ℕ} (m : Writing w first k n d₀ d i o) where
  abbrev us : List ℕ
  us = units_in w first k n

  module _ (h : i < k + n) where
    inside : m.j < n
    inside = omega (arith, m.is)

    here : m.j < length us
    here = omega (arith, length_units w first k n, inside)

    module _ {v c : ℕ} (e : Some (scalar v c) ≡ unit_step_at us m.j) where
      left : (vs : List ℕ) × ((scalars16 (drop (m.j + c) us) ≡ Some vs) × (m.more ≡ v ∷ vs))
      left = map_is (λ vs. v ∷ vs) (scalars16 (drop (m.j + c) us)) (sym (found m.reading here e refl).rest ∙ m.rest)

      splits : Splits (utf8s m.more) (utf8 v) (utf8s left.0)
      splits = record { is = ap utf8s left.1.1 ∙ utf8s_cons v left.0 }

      write_room : o + length (utf8 v) ≤ length d
      write_room = fits_next (fits_from d₀ (the_text us) 0 m.room) splits m.so_far

      -- the part of d from index o on has room for it
      part_room : {z : ℕ} → z ≤ length (utf8 v) → z ≤ length (mid_of o (length d - o) d)
      part_room f = omega (arith, write_room, length-drop o d, length-take-le (length d - o) (drop o d) (omega (arith, length-drop o d)))

      part_end : {z : ℕ} {d' : List ℕ} → Puts (mid_of o (length d - o) d) 0 (utf8 v) z d' → o + z ≤ length d
      part_end p = omega (arith, write_room, p.end)

      write_turn : {i' o' : ℕ} {d' : List ℕ} → i' ≡ i + c → Puts d o (utf8 v) o' d' → Writing w first k n d₀ d' i' o'
      write_turn {i'} {o'} {d'} f p = record {
        j = m.j + c;
        is = omega (arith, m.is);
        reading = reads_on m.reading here e refl;
        more = left.0;
        rest = left.1.0;
        room = m.room;
        so_far = goes_on (fits_from d₀ (the_text us) 0 m.room) splits m.so_far d' o' p.buffer p.end;
      }

      part_turn : {i' z : ℕ} {d' : List ℕ} → i' ≡ i + c → Puts (mid_of o (length d - o) d) 0 (utf8 v) z d'
          → Writing w first k n d₀ (put_mid o (length d - o) d d') i' (o + z)
      part_turn f p = write_turn f (record { end = omega (arith, p.end); buffer = part_put d (utf8 v) o write_room p })

    module _ {u : ℕ} (e : u ≡ unit_at w first i) where
      unit : u ≡ unit_at w first (k + m.j)
      unit = e ∙ ap (unit_at w first) m.is

      module _ (l : u < 0x800) where
        one : Some (scalar u 1) ≡ unit_step_at us m.j
        one = step_one w first k n m.j inside unit (omega arith)

        pub two_fit : 0x80 ≤ u → TwoFit u (length (mid_of o (length d - o) d))
        two_fit f = record { least = f; most = l; fits = part_room one (omega (arith, size_2 u f l)) }

        module _ {z : ℕ} {d' : List ℕ} (p : Puts (mid_of o (length d - o) d) 0 (utf8 u) z d') where
          pub two_end : o + z ≤ length d
          two_end = part_end one p

          pub two_turn : Writing w first k n d₀ (put_mid o (length d - o) d d') (i + 1) (o + z)
          two_turn = part_turn one refl p

      module _ (l : u < 0x80) where
        pub ascii_room : o < length d
        ascii_room = omega (arith, size_1 u l, write_room (one (omega arith)))

        pub ascii_turn : Writing w first k n d₀ (set d o u) (i + 1) (o + 1)
        ascii_turn =
            write_turn (one (omega arith)) refl
            (record { end = ap (λ (b : ℕ). o + b) (size_1 u l); buffer = writes_1 u d o l (write_room (one (omega arith))) })

      module _ {r : Bool} (g : r ≡ is_surrogate u) where
        module _ (t : not r ≡ true) where
          single : Some (scalar u 1) ≡ unit_step_at us m.j
          single = step_single w first k n m.j inside unit (sym g ∙ not-true r t)

          pub three_fit : 0x800 ≤ u → u < 2 ^ 16 → ThreeFit u (length (mid_of o (length d - o) d))
          three_fit f b = record { least = f; fits = part_room single (omega (arith, size_3 u f b)) }

          module _ {z : ℕ} {d' : List ℕ} (p : Puts (mid_of o (length d - o) d) 0 (utf8 u) z d') where
            pub three_end : o + z ≤ length d
            three_end = part_end single p

            pub three_turn : Writing w first k n d₀ (put_mid o (length d - o) d d') (i + 1) (o + z)
            three_turn = part_turn single refl p

        module _ (t : not r ≡ false) where
          -- a text that is written has no surrogate without a partner
          pair : Pair us m.j
          pair =
              let s : is_surrogate (get_or us m.j 0) ≡ true = ap is_surrogate (unit_of w first k n m.j inside ∙ sym unit) ∙ sym g ∙ not-false r t in
              pair_by us m.j _ _ s refl refl (λ x. not_some (sym (found_unpaired m.reading here x refl) ∙ m.rest))

          pair_inside : m.j + 1 < n
          pair_inside = omega (arith, pair.more, length_units w first k n)

          pub pair_there : UnitsInside w first k n → first + (i + 1) / 4 < length w
          pair_there x = omega (arith, pair_inside, x.there, m.is)

          module _ {l : ℕ} (f : l ≡ unit_at w first (i + 1)) where
            next : l ≡ get_or us (m.j + 1) 0
            next =
                let z : i + 1 ≡ k + (m.j + 1) = omega (arith, m.is) in
                f ∙ ap (unit_at w first) z ∙ sym (unit_of w first k n (m.j + 1) pair_inside)

            first_is : u ≡ get_or us m.j 0
            first_is = unit ∙ sym (unit_of w first k n m.j inside)

            two : Some (scalar (pair_value u l) 2) ≡ unit_step_at us m.j
            two = ap₂ (λ (x y : ℕ). Some (scalar (pair_value x y) 2)) first_is next ∙ pair.is

            pub pair_fits : PairFits u l (length (mid_of o (length d - o) d))
            pair_fits =
                let a = within_is 0xD800 0xDBFF u (ap is_high_surrogate first_is ∙ pair.high) in
                let b = within_is 0xDC00 0xDFFF l (ap is_low_surrogate next ∙ pair.low) in
                record {
                  high_from = a.0;
                  high_to = a.1;
                  low_from = b.0;
                  low_to = b.1;
                  fits = part_room two (omega (arith, size_4 (pair_value u l) (omega arith)));
                }

            module _ {z : ℕ} {d' : List ℕ} (p : Puts (mid_of o (length d - o) d) 0 (utf8 (pair_value u l)) z d') where
              pub pair_end : o + z ≤ length d
              pair_end = part_end two p

              pub pair_turn : Writing w first k n d₀ (put_mid o (length d - o) d d') (i + 1 + 1) (o + z)
              pair_turn = part_turn two (omega arith) p

  pub write_last : k + n ≤ i → Puts d₀ 0 (the_text us) o d
  write_last h =
      let l : length us ≤ m.j = omega (arith, length_units w first k n, m.is) in
      let z : m.more ≡ [] = same_Some m.more [] (sym m.rest ∙ ap scalars16 (drop_of_length-le us l) ∙ scalars16_nil) in
      ends_from d₀ (the_text us) 0 m.room (rw (ap utf8s z ∙ utf8s_nil) at m.so_far)
