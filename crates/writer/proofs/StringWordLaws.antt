-- Strings as words: their lengths, the units of one, and the loop of `put_strings`, which pushes them one after the other.
-- Assumes nothing.
use mathlib.Core.Path.{◌≡◌, refl, ◌∙◌, sym, ap, subst}
use mathlib.Core.List.{List, [], ◌∷◌, ◌++◌, append_assoc, append-nil, map-append, flat_map}
use Prim.Native.Nat.{ℕ, zero, suc, ◌+◌, ◌-◌, ◌/◌, ◌≤◌, ◌<◌}
use native.Mathlib.Omega.{arith}
use lib.ListN.{length, set, take, drop, length-append, length-map, length-drop, drop_of_length-le}
use lib.Seq.{length-take-le, drop-drop}
use Rattle.text.specs.Buffer.{put}
use Rattle.text.specs.Unicode.{Below}
use Rattle.text.proofs.BufferLaws.{put_none, put_one, put_front}
use Rattle.text.proofs.ScalarLaws.{below_append}
use Rattle.text.proofs.Utf16Laws.{units_below}
use Rattle.writer.specs.Array.{string_units, unit_counts, all_units, string_words}
use Rattle.writer.specs.declared.packing.Packer.{Packer}
use Rattle.writer.specs.Stages.Packing.{State, state_of, fresh, pushes, padding, Pushed, Packable, Finished}
use Rattle.writer.specs.Spans.{string_at, strings_from, strings_in}
use Rattle.writer.specs.Stages.Payload.{StringsFit}
use Rattle.writer.specs.Words.{packed}
use Rattle.writer.proofs.packing.Laws.{pushed_count, pushes_count, pushes_length, pushes_append, packs_all}
use Rattle.writer.proofs.WordLaws.{length_packed}

-- the lengths of the strings, and a word for each four units
pub length_string_words : (ss : List (List ℕ)) → length (string_words ss) ≡ length ss + (length (all_units ss) + 3) / 4
unfolding string_words
length_string_words ss =
    omega
    (arith, length-append (unit_counts ss) (packed (all_units ss)), length-map ss (λ (s : List ℕ). length (string_units s)), length_packed (all_units ss))

pub length_strings : (text spans : List ℕ) (i n : ℕ) → length (strings_from text spans i n) ≡ n
unfolding strings_from
length_strings text spans i zero = refl
length_strings text spans i (suc n) = ap suc (length_strings text spans (suc i) n)

pub all_units_append : (ss rs : List (List ℕ)) → all_units (ss ++ rs) ≡ all_units ss ++ all_units rs
unfolding flat_map
all_units_append [] rs = refl
all_units_append (s ∷ ss) rs =
    ap (λ (us : List ℕ). string_units s ++ us) (all_units_append ss rs) ∙ sym (append_assoc (string_units s) (all_units ss) (all_units rs))

-- ---- the strings before string i

strings_snoc : (text spans : List ℕ) (i n : ℕ) → strings_from text spans i (suc n) ≡ strings_from text spans i n ++ string_at text spans (i + n) ∷ []
unfolding strings_from
strings_snoc text spans i zero =
    let e : i + 0 ≡ i = omega arith in
    rw e
strings_snoc text spans i (suc n) =
    let e : i + suc n ≡ suc i + n = omega arith in
    rw e (ap (λ (ss : List (List ℕ)). string_at text spans i ∷ ss) (strings_snoc text spans (suc i) n))

module _ (text spans : List ℕ) where
  abbrev counts : ℕ → List ℕ
  counts i = unit_counts (strings_from text spans 0 i)

  abbrev units : ℕ → List ℕ
  units i = all_units (strings_from text spans 0 i)

  one_more : (i : ℕ) → strings_from text spans 0 (i + 1) ≡ strings_from text spans 0 i ++ string_at text spans i ∷ []
  one_more i =
      let s : i + 1 ≡ suc i = omega arith in
      let z : 0 + i ≡ i = omega arith in
      rw s (strings_snoc text spans 0 i ∙ ap (λ (k : ℕ). strings_from text spans 0 i ++ string_at text spans k ∷ []) z)

  counts_more : (i : ℕ) → counts (i + 1) ≡ counts i ++ length (string_units (string_at text spans i)) ∷ []
  counts_more i = ap unit_counts (one_more i) ∙ map-append (λ (s : List ℕ). length (string_units s)) (strings_from text spans 0 i) (string_at text spans i ∷ [])

  units_none : units 0 ≡ []
  unfolding strings_from flat_map
  units_none = refl

  units_more : (i : ℕ) → units (i + 1) ≡ units i ++ string_units (string_at text spans i)
  unfolding flat_map
  units_more i =
      ap all_units (one_more i)
      ∙ all_units_append (strings_from text spans 0 i) (string_at text spans i ∷ [])
      ∙ ap (λ (us : List ℕ). units i ++ us) (append-nil (string_units (string_at text spans i)))

  length_more : (i : ℕ) → length (units (i + 1)) ≡ length (units i) + length (string_units (string_at text spans i))
  length_more i = ap length (units_more i) ∙ length-append (units i) (string_units (string_at text spans i))

  length_counts : (i : ℕ) → length (counts i) ≡ i
  length_counts i = length-map (strings_from text spans 0 i) (λ (s : List ℕ). length (string_units s)) ∙ length_strings text spans 0 i

  -- strings only add units
  units_grow : (i k : ℕ) → length (units i) ≤ length (units (i + k))
  units_grow i zero =
      let z : i + 0 ≡ i = omega arith in
      rw z (omega arith)
  units_grow i (suc k) =
      let s : i + suc k ≡ i + k + 1 = omega arith in
      rw s (omega (arith, units_grow i k, length_more (i + k)))

-- ---- the loop of `put_strings`

-- the lengths of the strings before string i are stored in the first words, and their units pushed into the others
pub record Stringing (text spans words counted : List ℕ) (p : Packer) (i : ℕ) : Type 0 where
  pub stored : counted ≡ put (take (length spans / 2) words) 0 (unit_counts (strings_from text spans 0 i))
  pub pushed : state_of p ≡ pushes (fresh (drop (length spans / 2) words)) (all_units (strings_from text spans 0 i))

module _ (text spans words : List ℕ) (r : StringsFit text spans (length words)) where
  abbrev n : ℕ
  n = length spans / 2

  room : n + (length (units text spans n) + 3) / 4 ≤ length words
  room = omega (arith, r.fits, length_string_words (strings_in text spans), length_strings text spans 0 n)

  length_first : length (take n words) ≡ n
  length_first = length-take-le n words (omega (arith, room))

  length_others : length (drop n words) ≡ length words - n
  length_others = length-drop n words

  pub counts_fit : n ≤ length words
  counts_fit = omega (arith, room)

  units_below_n : (i : ℕ) → i ≤ n → Below 65536 (units text spans i)
  units_below_n zero h = rw (units_none text spans) tt
  units_below_n (suc i) h =
      let s : suc i ≡ i + 1 = omega arith in
      let l : i < n = omega arith in
      rw (s, units_more text spans i)
      (below_append 65536 (units text spans i) (string_units (string_at text spans i)) (units_below_n i (omega arith))
      (units_below (string_at text spans i) (string_units (string_at text spans i)) (r.well_formed i l)))

  units_most : (i : ℕ) → i ≤ n → length (units text spans i) ≤ length (units text spans n)
  units_most i h =
      let e : i + (n - i) ≡ n = omega arith in
      subst (λ (k : ℕ). length (units text spans i) ≤ length (units text spans k)) e (units_grow text spans i (n - i))

  pub string_start : (p : Packer) → p.words.now ≡ drop n words → p.word ≡ 0 → p.count ≡ 0 → Stringing text spans words (take n words) p 0
  unfolding strings_from flat_map pushes
  string_start p e f g = record { stored = sym (put_none (take n words) 0); pushed = rw (e, f, g) }

  module _ {counted : List ℕ} {p : Packer} {i : ℕ} (m : Stringing text spans words counted p i) where
    count_is : p.count ≡ length (units text spans i)
    count_is = ap (λ (s : State). s.count) m.pushed ∙ pushes_count (fresh (drop n words)) (units text spans i) ∙ omega arith

    same_length : length p.words.now ≡ length words - n
    same_length = ap (λ (s : State). length s.words) m.pushed ∙ pushes_length (fresh (drop n words)) (units text spans i) ∙ length_others

    pub string_fits : i < n → Packable (string_at text spans i) p
    string_fits h = record {
      well_formed = r.well_formed i h;
      fits = omega (arith, room, same_length, count_is, length_more text spans i, units_most (i + 1) (omega arith));
    }

    pub string_turn : {p' : Packer} → i < n → Pushed p (string_units (string_at text spans i)) p' → Stringing text spans words (set counted i (p'.count - p.count)) p' (i + 1)
    string_turn {p'} h q =
        let us : List ℕ = string_units (string_at text spans i) in
        let k : p'.count - p.count ≡ length us = omega (arith, pushed_count q) in
        let l : i ≡ 0 + length (counts text spans i) = omega (arith, length_counts text spans i) in
        let e : set (put (take n words) 0 (counts text spans i)) (0 + length (counts text spans i)) (length us) ≡ put (take n words) 0 (counts text spans i ++ length us ∷ []) =
        put_one (take n words) 0 (counts text spans i) (length us) (omega (arith, length_counts text spans i, length_first)) in
        record {
          stored = ap (λ (d : List ℕ). set d i (p'.count - p.count)) m.stored ∙ rw (k, counts_more text spans i) (rw (sym l) at e);
          pushed =
              q.is
              ∙ ap (λ (s : State). pushes s us) m.pushed
              ∙ pushes_append (fresh (drop n words)) (units text spans i) us
              ∙ ap (pushes (fresh (drop n words))) (sym (units_more text spans i));
        }

    pub finish_room : i ≤ n → (p.count + 3) / 4 ≤ length p.words.now
    finish_room h = omega (arith, room, same_length, count_is, units_most i h)

    pub string_last : {p' : Packer} {others : List ℕ} → i ≡ n → Finished p p' → others ≡ p'.words.now → counted ++ others ≡ put words 0 (string_words (strings_in text spans))
    unfolding string_words
    string_last {p'} {others} e q f =
        let all : List ℕ = units text spans n in
        let cs : List ℕ = counts text spans n in
        let rest : List ℕ = drop n words in
        let l : length cs ≡ n = length_counts text spans n in
        let none : drop (length cs) (take n words) ≡ [] = drop_of_length-le (take n words) (omega (arith, length_first)) in
        let a : counted ≡ cs = rw e at m.stored ∙ put_front (take n words) cs ∙ ap (λ (x : List ℕ). cs ++ x) none ∙ append-nil cs in
        let c : p.count ≡ length all = rw e at count_is in
        let d : pushes (state_of p) (padding p.count) ≡ pushes (fresh rest) (all ++ padding (length all)) =
        ap (λ (s : State). pushes s (padding p.count)) (rw e at m.pushed) ∙ pushes_append (fresh rest) all (padding p.count) ∙ rw c in
        let b : others ≡ packed all ++ drop (length (packed all)) rest =
        f ∙ q.is ∙ ap (λ (s : State). s.words) d
        ∙ packs_all rest all (units_below_n n (omega arith)) (omega (arith, length_others, length_packed all, room))
        ∙ put_front rest (packed all) in
        let k : length (cs ++ packed all) ≡ n + length (packed all) = omega (arith, length-append cs (packed all)) in
        rw (a, b, put_front words (cs ++ packed all), k, drop-drop (length (packed all)) n words) (sym (append_assoc cs (packed all) (drop (n + length (packed all)) words)))
