-- The laws of pushing code units into words: one unit, several, and the words that they leave; and the loops that push.
-- Assumes nothing.
use mathlib.Core.Path.{◌≡◌, refl, ◌∙◌, sym, ap, subst}
use mathlib.Core.Bool.{true, cond}
use mathlib.Core.List.{List, [], ◌∷◌, ◌++◌, append_assoc, append-nil}
use Rattle.std.specs.Prelude.{Some}
use Prim.Native.Nat.{ℕ, zero, suc, ◌+◌, ◌-◌, ◌*◌, ◌/◌, ◌%◌, ◌^◌, ◌≤◌, ◌<◌}
use native.Mathlib.Omega.{arith}
use borrow.Author.Tests.{eq-eqb, ne_eqb, eqb-true, eqb-false}
use lib.Dec.{eqb}
use lib.Seq.{take_all, take-suc}
use native.Mathlib.Numerals.{add-one}
use lib.ListN.{length, get_or, set, take, replicate, length-append, length-set, length-replicate}
use Rattle.text.specs.Buffer.{put}
use Rattle.text.specs.Unicode.{Below, is_scalar, utf16, utf16s}
use Rattle.text.specs.Utf8.{step_at, parts_from, scalars_of, scalars8}
use Rattle.text.specs.declared.utf8.Step.{Step}
use Rattle.text.specs.declared.utf8.Step.TheVariants.{Scalar, IllFormed, End}
use Rattle.text.proofs.BufferLaws.{put_none, put_one}
use Rattle.text.proofs.LeadLaws.{step_1}
use Rattle.text.proofs.PartLaws.{step_reads, step_end, scalars_scalar, scalars_ill_formed, scalars_end, left, left_less, scalar_less}
use Rattle.text.proofs.ScalarLaws.{is_scalar_lem, below_append, utf16_1, utf16_2, utf16s_nil, utf16s_cons}
use Rattle.text.proofs.TestLaws.{cond_both}
use Rattle.text.proofs.Utf8Laws.{map_is, not_some, step_took}
use Rattle.writer.specs.Array.{string_units}
use Rattle.writer.specs.declared.packing.Packer.{Packer}
use Rattle.writer.specs.Stages.Packing.{State, state_of, fresh, push, pushes, padding, Pushed, Packable, PackableFrom, SequenceAt, Ascii, PushedAscii}
use Rattle.writer.specs.Words.{packed}
use Rattle.writer.proofs.WordLaws.{length_packed, whole, window, length_whole, window_snoc, whole_keeps, whole_fills, packed_whole, packed_zero}

-- ---- one after another

pub pushes_append : (s : State) (us vs : List ℕ) → pushes (pushes s us) vs ≡ pushes s (us ++ vs)
unfolding pushes
pushes_append s [] vs = refl
pushes_append s (u ∷ us) vs = pushes_append (push s u) us vs

push_count : (s : State) (u : ℕ) → (push s u).count ≡ s.count + 1
unfolding push
push_count s u = refl

pub pushes_count : (s : State) (us : List ℕ) → (pushes s us).count ≡ s.count + length us
unfolding pushes
pushes_count s [] = omega arith
pushes_count s (u ∷ us) = omega (arith, pushes_count (push s u) us, push_count s u)

push_length : (s : State) (u : ℕ) → length (push s u).words ≡ length s.words
unfolding push
push_length s u = cond_both (λ (d : List ℕ). length d ≡ length s.words) (eqb ((s.count + 1) % 4) 0) _ s.words (λ e. length-set s.words _ _) (λ e. refl)

pub pushes_length : (s : State) (us : List ℕ) → length (pushes s us).words ≡ length s.words
unfolding pushes
pushes_length s [] = refl
pushes_length s (u ∷ us) = pushes_length (push s u) us ∙ push_length s u

pub pushed_none : {p : Packer} → Pushed p [] p
unfolding pushes
pushed_none = record { is = refl }

module _ {p p' : Packer} {us : List ℕ} (q : Pushed p us p') where
  pub pushed_count : p'.count ≡ p.count + length us
  pushed_count = ap (λ (s : State). s.count) q.is ∙ pushes_count (state_of p) us

  pub pushed_length : length p'.words.now ≡ length p.words.now
  pushed_length = ap (λ (s : State). length s.words) q.is ∙ pushes_length (state_of p) us

  pub pushed_then : {vs : List ℕ} {p'' : Packer} → Pushed p' vs p'' → Pushed p (us ++ vs) p''
  pushed_then {vs} r = record { is = r.is ∙ ap (λ (s : State). pushes s vs) q.is ∙ pushes_append (state_of p) us vs }

-- ---- units that fall into one word

-- they are stored together where the last of them fills it
abbrev within : State → List ℕ → State
within s us = record {
  words = cond (eqb ((s.count + length us) % 4) 0) (set s.words (s.count / 4) (window s.word us)) s.words;
  word = window s.word us;
  count = s.count + length us;
}

pushes_within : (s : State) (us : List ℕ) → 0 < length us → s.count % 4 + length us ≤ 4 → pushes s us ≡ within s us
unfolding pushes push window
pushes_within s [] h k = absurd (omega arith)
pushes_within s (u ∷ []) h k = refl
pushes_within s (u ∷ v ∷ us) h k =
    let t : State = record { words = s.words; word = s.word / 65536 + u * 281474976710656; count = s.count + 1 } in
    let e : push s u ≡ t = simp (ne_eqb ((s.count + 1) % 4) 0 (λ z. omega arith)) in
    let i : (s.count + 1) / 4 ≡ s.count / 4 = omega arith in
    let n : s.count + 1 + length (v ∷ us) ≡ s.count + length (u ∷ v ∷ us) = omega arith in
    ap (λ (x : State). pushes x (v ∷ us)) e ∙ pushes_within t (v ∷ us) (omega arith) (omega arith) ∙ rw (n, i)

-- the loop that shifts the units into the word of p₀: k of them are in that of p
pub record Shifting (p₀ : Packer) (us : List ℕ) (p : Packer) (k : ℕ) : Type 0 where
  pub word : p.word ≡ window p₀.word (take k us)
  pub count : p.count ≡ p₀.count
  pub words : p.words ≡ p₀.words

module _ (p₀ : Packer) (us : List ℕ) where
  pub shift_start : Shifting p₀ us p₀ 0
  unfolding window
  shift_start = record { word = refl; count = refl; words = refl }

  module _ {p : Packer} {k : ℕ} (m : Shifting p₀ us p k) where
    pub shift_turn : {u : ℕ} → k < length us → u ≡ get_or us k 0 → u < 65536
        → Shifting p₀ us (record { words = p.words; word = p.word / 65536 + u * 281474976710656 % 18446744073709551616; count = p.count }) (k + 1)
    shift_turn {u} h e l =
        let z : u * 281474976710656 % 18446744073709551616 ≡ u * 281474976710656 = omega arith in
        record {
          word = rw (z, add-one k, take-suc us k 0 h) (ap (λ (w : ℕ). w / 65536 + u * 281474976710656) m.word ∙ rw e (sym (window_snoc p₀.word (take k us) (get_or us k 0))));
          count = m.count;
          words = m.words;
        }

    module _ {n : ℕ} (last : length us ≤ k) (size : n ≡ length us) (some : 0 < n) (one : p₀.count % 4 + n ≤ 4) (p' : Packer) (e : p'.word ≡ p.word) (f : p'.count ≡ p.count + n) where
      word_is : p'.word ≡ window p₀.word us
      word_is = e ∙ m.word ∙ ap (window p₀.word) (take_all k us last)

      count_is : p'.count ≡ p₀.count + length us
      count_is = omega (arith, m.count)

      all : pushes (state_of p₀) us ≡ within (state_of p₀) us
      all = pushes_within (state_of p₀) us (omega arith) (omega arith)

      pub push_stores : p'.count % 4 ≡ 0 → p'.words.now ≡ set p.words.now (p.count / 4) p.word → Pushed p₀ us p'
      push_stores h g =
          record { is = rw (g, sym e, word_is, count_is, m.words, m.count) (rw (eq-eqb ((p₀.count + length us) % 4) 0 (omega (arith, count_is))) at (sym all)) }

      pub push_keeps : (p'.count % 4 ≡ 0 → ⊥) → p'.words.now ≡ p.words.now → Pushed p₀ us p'
      push_keeps h g =
          record { is = rw (g, word_is, count_is, m.words) (rw (ne_eqb ((p₀.count + length us) % 4) 0 (λ z. h (omega (arith, count_is)))) at (sym all)) }

-- the zeros that fill the last word shift what it holds down
zeros_shift : (w r : ℕ) → (r ≡ 0 → ⊥) → r < 4 → window w (replicate ((4 - r) % 4) 0) ≡ w / 2 ^ (64 - 16 * r)
unfolding window
zeros_shift w zero h l = absurd (h refl)
zeros_shift w (suc zero) h l = omega arith
zeros_shift w (suc (suc zero)) h l = omega arith
zeros_shift w (suc (suc (suc zero))) h l = omega arith
zeros_shift w (suc (suc (suc (suc r)))) h l = absurd (omega arith)

module _ (p : Packer) where
  pub finish_keeps : p.count % 4 ≡ 0 → p.words.now ≡ (pushes (state_of p) (padding p.count)).words
  unfolding pushes
  finish_keeps e = rw e

  pub finish_stores : (p.count % 4 ≡ 0 → ⊥) → set p.words.now (p.count / 4) (p.word / 2 ^ (64 - 16 * (p.count % 4))) ≡ (pushes (state_of p) (padding p.count)).words
  finish_stores h =
      let l : length (padding p.count) ≡ (4 - p.count % 4) % 4 = length-replicate ((4 - p.count % 4) % 4) 0 in
      let full : (p.count + length (padding p.count)) % 4 ≡ 0 = omega (arith, l) in
      sym (ap (λ (s : State). s.words) (pushes_within (state_of p) (padding p.count) (omega (arith, l)) (omega (arith, l)))
      ∙ rw (eq-eqb ((p.count + length (padding p.count)) % 4) 0 full, zeros_shift p.word (p.count % 4) h (omega arith)))

-- ---- what is left in the words

-- the units us are pushed into the words d₀
record Packing (d₀ us : List ℕ) (s : State) : Type 0 where
  pub units : Below 65536 us
  pub count : s.count ≡ length us
  pub word : s.word ≡ window 0 us
  pub holds : s.words ≡ put d₀ 0 (whole us)

module _ (d₀ us : List ℕ) (s : State) (m : Packing d₀ us s) (u : ℕ) (h : u < 65536) where
  next_word : s.word / 65536 + u * 281474976710656 ≡ window 0 (us ++ u ∷ [])
  next_word = ap (λ (w : ℕ). w / 65536 + u * 281474976710656) m.word ∙ sym (window_snoc 0 us u)

  full : (length us + 1) / 4 ≤ length d₀ → (length us + 1) % 4 ≡ 0
      → set s.words (s.count / 4) (s.word / 65536 + u * 281474976710656) ≡ put d₀ 0 (whole (us ++ u ∷ []))
  full room e =
      let n : length us / 4 ≡ 0 + length (whole us) = omega (arith, length_whole us) in
      rw (m.holds, m.count, next_word, n)
      (put_one d₀ 0 (whole us) (window 0 (us ++ u ∷ [])) (omega (arith, length_whole us))
      ∙ ap (put d₀ 0) (sym (whole_fills 0 us u (omega arith) m.units h e)))

  push_words : (length us + 1) / 4 ≤ length d₀ → (push s u).words ≡ put d₀ 0 (whole (us ++ u ∷ []))
  unfolding push
  push_words room =
      let k : ℕ = (s.count + 1) % 4 in
      cond_both (λ (d : List ℕ). d ≡ put d₀ 0 (whole (us ++ u ∷ []))) (eqb k 0) _ s.words (λ t. full room (rw m.count at (eqb-true k 0 t)))
      (λ t. m.holds ∙ ap (put d₀ 0) (sym (whole_keeps us u (rw m.count at (eqb-false k 0 t)))))

  push_packs : (length us + 1) / 4 ≤ length d₀ → Packing d₀ (us ++ u ∷ []) (push s u)
  unfolding push
  push_packs room = record {
    units = below_append 65536 us (u ∷ []) m.units (h, tt);
    count = omega (arith, m.count, length-append us (u ∷ []));
    word = next_word;
    holds = push_words room;
  }

pushes_pack : (d₀ us : List ℕ) (s : State) (vs : List ℕ) → Packing d₀ us s → Below 65536 vs → (length us + length vs) / 4 ≤ length d₀ → Packing d₀ (us ++ vs) (pushes s vs)
unfolding pushes
pushes_pack d₀ us s [] m b room = rw append-nil m
pushes_pack d₀ us s (u ∷ vs) m b room =
    let one = push_packs d₀ us s m u b.0 (omega arith) in
    let e : (us ++ u ∷ []) ++ vs ≡ us ++ u ∷ vs = append_assoc us (u ∷ []) vs in
    rw (← e) (pushes_pack d₀ (us ++ u ∷ []) (push s u) vs one b.1 (omega (arith, length-append us (u ∷ []))))

starts : (d₀ : List ℕ) → Packing d₀ [] (fresh d₀)
unfolding whole window
starts d₀ = record { units = tt; count = refl; word = refl; holds = sym (put_none d₀ 0) }

packs : (d₀ us : List ℕ) → Below 65536 us → length us / 4 ≤ length d₀ → Packing d₀ us (pushes (fresh d₀) us)
packs d₀ us b room = pushes_pack d₀ [] (fresh d₀) us (starts d₀) b (omega arith)

-- zeros change nothing until the word is full
packed_zeros : (us : List ℕ) (n : ℕ) → n + length us % 4 ≤ 4 → (0 < n → 0 < length us % 4) → packed (us ++ replicate n 0) ≡ packed us
packed_zeros us zero h k = ap packed (append-nil us)
packed_zeros us (suc n) h k =
    let e : (us ++ 0 ∷ []) ++ replicate n 0 ≡ us ++ 0 ∷ replicate n 0 = append_assoc us (0 ∷ []) (replicate n 0) in
    let l : length (us ++ 0 ∷ []) ≡ length us + 1 = length-append us (0 ∷ []) in
    let q : 0 < length us % 4 = k (omega arith) in
    ap packed (sym e)
    ∙ packed_zeros (us ++ 0 ∷ []) n (rw l (omega arith)) (λ s. rw l (omega arith))
    ∙ packed_zero us (λ z. omega arith)

below_zeros : (n : ℕ) → Below 65536 (replicate n 0)
below_zeros zero = tt
below_zeros (suc n) = (omega arith, below_zeros n)

-- all units, and then the zeros that fill the last word: the packed words
pub packs_all : (d₀ us : List ℕ) → Below 65536 us → length (packed us) ≤ length d₀ → (pushes (fresh d₀) (us ++ padding (length us))).words ≡ put d₀ 0 (packed us)
packs_all d₀ us b room =
    let n : ℕ = (4 - length us % 4) % 4 in
    let l : length (us ++ replicate n 0) ≡ length us + n = length-append us (replicate n 0) ∙ ap (λ (k : ℕ). length us + k) (length-replicate n 0) in
    let r : length (us ++ replicate n 0) / 4 ≤ length d₀ = rw l (omega (arith, length_packed us)) in
    let w : length (us ++ replicate n 0) % 4 ≡ 0 = rw l (omega arith) in
    (packs d₀ (us ++ replicate n 0) (below_append 65536 us (replicate n 0) b (below_zeros n)) r).holds
    ∙ ap (put d₀ 0) (sym (packed_whole (us ++ replicate n 0) w) ∙ packed_zeros us n (omega arith) (λ s. omega arith))

-- ---- the units of a scalar value

module _ (v n room : ℕ) (h : (n + length (utf16 v)) / 4 ≤ room) where
  pub one_room : v < 0x10000 → (n + 1) / 4 ≤ room
  one_room l = omega (arith, ap length (utf16_1 v l))

  pub two_room : 0x10000 ≤ v → (n + 2) / 4 ≤ room
  two_room l = omega (arith, ap length (utf16_2 v l))

pub one_pushed : {p p' : Packer} (v : ℕ) → v < 0x10000 → Pushed p (v ∷ []) p' → Pushed p (utf16 v) p'
one_pushed v l q = rw (utf16_1 v l) q

pub two_pushed : {p p' : Packer} (v : ℕ) → 0x10000 ≤ v → Pushed p ((0xD800 + (v - 0x10000) / 1024) ∷ (0xDC00 + (v - 0x10000) % 1024) ∷ []) p' → Pushed p (utf16 v) p'
two_pushed v l q = rw (utf16_2 v l) q

-- ---- ASCII bytes, each of which is its own unit

ascii_within : (t : List ℕ) (i : ℕ) (us : List ℕ) → Ascii t i us → 1 ≤ length us → i + length us ≤ length t
ascii_within t i [] a h = absurd (omega arith)
ascii_within t i (u ∷ []) a h = omega (arith, a.0)
ascii_within t i (u ∷ w ∷ us) a h = omega (arith, ascii_within t (i + 1) (w ∷ us) a.1.1.1 (omega arith))

-- they are the first of the units that are left
ascii_split : (t : List ℕ) (i : ℕ) (us : List ℕ) → Ascii t i us → {more : List ℕ} → scalars_of (parts_from t i) ≡ Some more
    → (others : List ℕ) × ((scalars_of (parts_from t (i + length us)) ≡ Some others) × (utf16s more ≡ us ++ utf16s others))
ascii_split t i [] a {more} e =
    let z : i + 0 ≡ i = omega arith in
    (more, (rw z e, refl))
ascii_split t i (u ∷ us) a {more} e =
    let o = map_is (λ vs. u ∷ vs) (scalars_of (parts_from t (i + 1))) (rw (scalars_scalar t i (step_1 t i u a.1.0 a.0 a.1.1.0)) at e) in
    let r = ascii_split t (i + 1) us a.1.1.1 o.1.0 in
    let n : i + suc (length us) ≡ i + 1 + length us = omega arith in
    (r.0, (rw n r.1.0, ap utf16s o.1.1 ∙ utf16s_cons u o.0 ∙ rw (utf16_1 u (omega (arith, a.1.1.0)), r.1.1)))

ascii_most : (t : List ℕ) (i : ℕ) (us : List ℕ) → Ascii t i us → {more : List ℕ} → scalars_of (parts_from t i) ≡ Some more → length us ≤ length (utf16s more)
ascii_most t i us a e = let r = ascii_split t i us a e in omega (arith, ap length r.1.1, length-append us (utf16s r.0))

module _ (t : List ℕ) (i : ℕ) (p : Packer) (here : i < length t) (low : get_or t i 0 < 128) (f : PackableFrom t i p) where
  pub ascii_one_room : (p.count + 1) / 4 ≤ length p.words.now
  ascii_one_room = omega (arith, f.fits, ascii_most t i (get_or t i 0 ∷ []) (here, (refl, (low, tt))) f.rest)

  module _ (l : 4 ≤ length t - i) (l₁ : get_or t (i + 1) 0 ≤ 127) (l₂ : get_or t (i + 2) 0 ≤ 127) (l₃ : get_or t (i + 3) 0 ≤ 127) where
    abbrev four : List ℕ
    four = get_or t i 0 ∷ get_or t (i + 1) 0 ∷ get_or t (i + 2) 0 ∷ get_or t (i + 3) 0 ∷ []

    pub ascii_these : Ascii t i four
    ascii_these =
        let two : i + 1 + 1 ≡ i + 2 = omega arith in
        let three : i + 2 + 1 ≡ i + 3 = omega arith in
        let last : Ascii t (i + 2 + 1) (get_or t (i + 3) 0 ∷ []) = rw three (omega arith, (refl, (omega arith, tt))) in
        let third : Ascii t (i + 1 + 1) (get_or t (i + 2) 0 ∷ get_or t (i + 3) 0 ∷ []) = rw two (omega arith, (refl, (omega arith, last))) in
        (here, (refl, (low, (omega arith, (refl, (omega arith, third))))))

    pub ascii_four_room : (p.count + 4) / 4 ≤ length p.words.now
    ascii_four_room = omega (arith, f.fits, ascii_most t i four ascii_these f.rest)

-- ---- the units of a text

-- the units done are pushed, and the scalar values more are left
pub record Pushing (t : List ℕ) (p₀ p : Packer) (i : ℕ) : Type 0 where
  pub done : List ℕ
  pub more : List ℕ
  pub rest : scalars_of (parts_from t i) ≡ Some more
  pub whole : string_units t ≡ done ++ utf16s more
  pub pushed : Pushed p₀ done p

module _ (t : List ℕ) (p₀ : Packer) (room : Packable t p₀) where
  pub push_start : Pushing t p₀ p₀ 0
  push_start =
      let o = map_is utf16s (scalars8 t) room.well_formed in
      record { done = []; more = o.0; rest = o.1.0; whole = o.1.1; pushed = pushed_none }

  module _ {p : Packer} {i : ℕ} (m : Pushing t p₀ p i) where
    pub push_from : PackableFrom t i p
    push_from =
        let n = simp length-append at (ap length m.whole) in
        record { more = m.more; rest = m.rest; fits = omega (arith, n, pushed_count m.pushed, pushed_length m.pushed, room.fits) }

    module _ {v next : ℕ} (g : step_at t i ≡ Scalar v next) where
      split : (us : List ℕ) × ((scalars_of (parts_from t next) ≡ Some us) × (m.more ≡ v ∷ us))
      split = map_is (λ us. v ∷ us) (scalars_of (parts_from t next)) (rw (scalars_scalar t i g) at m.rest)

      longer : string_units t ≡ (m.done ++ utf16 v) ++ utf16s split.0
      longer =
          m.whole
          ∙ ap (λ (vs : List ℕ). m.done ++ utf16s vs) split.1.1
          ∙ ap (λ (us : List ℕ). m.done ++ us) (utf16s_cons v split.0)
          ∙ sym (append_assoc m.done (utf16 v) (utf16s split.0))

      pub push_value : is_scalar v ≡ true
      push_value = is_scalar_lem (step_took t i v next (step_reads t i g)).scalar

      pub push_room : (p.count + length (utf16 v)) / 4 ≤ length p.words.now
      push_room =
          let n = simp length-append at (ap length longer) in
          omega (arith, n, pushed_count m.pushed, pushed_length m.pushed, room.fits)

      pub push_turn : {p' : Packer} → Pushed p (utf16 v) p' → Pushing t p₀ p' next
      push_turn q = record { done = m.done ++ utf16 v; more = split.0; rest = split.1.0; whole = longer; pushed = pushed_then m.pushed q }

    sequence_by : (x : Step) → step_at t i ≡ x → i < length t → 128 ≤ get_or t i 0 → SequenceAt t i
    sequence_by (Scalar v next) g h l = record { value = v; next = next; is = g; long = l }
    sequence_by (IllFormed next) g h l = not_some (rw (scalars_ill_formed t i g) at m.rest)
    sequence_by End g h l = absurd (omega (arith, step_end t i g))

    pub push_sequence : i < length t → 128 ≤ get_or t i 0 → SequenceAt t i
    push_sequence h l = sequence_by (step_at t i) refl h l

    pub push_last : length t ≤ i → Pushed p₀ (string_units t) p
    push_last h =
        let o : Some [] ≡ Some m.more = rw (scalars_end t i h) at m.rest in
        let n : m.more ≡ [] = cc in
        let w : string_units t ≡ m.done =
        m.whole ∙ ap (λ (vs : List ℕ). m.done ++ utf16s vs) n ∙ ap (λ (us : List ℕ). m.done ++ us) utf16s_nil ∙ append-nil m.done in
        subst (λ (us : List ℕ). Pushed p₀ us p) (sym w) m.pushed

    -- n of them were ASCII
    module _ {n : ℕ} {p' : Packer} (q : PushedAscii t i n p p') where
      pub ascii_turn : Pushing t p₀ p' (i + n)
      ascii_turn =
          let o = ascii_split t i q.units q.ascii m.rest in
          rw q.count
          (record {
            done = m.done ++ q.units;
            more = o.0;
            rest = o.1.0;
            whole = m.whole ∙ ap (λ (us : List ℕ). m.done ++ us) o.1.1 ∙ sym (append_assoc m.done q.units (utf16s o.0));
            pushed = pushed_then m.pushed q.pushed;
          })

      ascii_inside : i + n ≤ length t
      ascii_inside = omega (arith, ascii_within t i q.units q.ascii (omega (arith, q.some, q.count)), q.count)

      pub ascii_fits : length t < 2 ^ 64 → i + n < 2 ^ 64
      ascii_fits h = omega (arith, ascii_inside)

      pub ascii_less : left t (i + n) < left t i
      ascii_less = left_less t i (i + n) (omega (arith, q.some)) ascii_inside

pub sequence_less : (t : List ℕ) (i : ℕ) {v next : ℕ} → step_at t i ≡ Scalar v next → left t next < left t i
sequence_less t i g = scalar_less t i refl g
