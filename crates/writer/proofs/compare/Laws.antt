-- Comparing bytes with the metadata blob, part by part.
-- Assumes nothing.
use mathlib.Core.Path.{◌≡◌, refl, sym, ap, ap₂, ◌∙◌}
use mathlib.Core.Bool.{Bool, true, false, ◌&&◌}
use mathlib.Core.List.{List, [], ◌∷◌, ◌++◌, flat_map}
use Prim.Native.Nat.{ℕ, zero, suc, max, ◌+◌, ◌-◌, ◌*◌, ◌^◌, ◌≤◌, ◌<◌}
use native.Mathlib.Numerals.{add-one}
use native.Mathlib.Omega.{arith}
use borrow.Author.Tests.{eq-eqb, ne_eqb, eqb-true, eqb-false, le-leb, lt-leb}
use Rattle.std.specs.Int.{w32, from_le_bytes}
use Rattle.std.specs.List.{fold, list_all, range_with_len}
use Rattle.std.proofs.lemmas.Nat.{le_bytes_4, from_le_bytes-to_le_bytes_4}
use lib.Dec.{eqb}
use lib.ListN.{length, replicate, get_or, take, drop, length-take, length-drop, length-replicate, drop_of_length-le}
use lib.Seq.{drop-cons, drop-drop, take_all}
use Rattle.text.specs.Buffer.{same}
use Rattle.text.proofs.SameLaws.{same_refl, same_not, same_append}
use Rattle.text.proofs.TestLaws.{either}
use Rattle.writer.specs.FileWrapper.{Region, SavedBlocks, Objects, u32_bytes, u32s, entry, entries_from, file_wrapper, is_file_wrapper}
use Rattle.writer.specs.Stages.Compare.{stands_at}
use Rattle.writer.specs.Stages.FileWrapper.{file_head}
use Rattle.writer.proofs.FileWrapperLaws.{length_u32s, entry_size, length_entry, length_entries, length_head, file_wrapper_is, length_file_wrapper}

-- ---- one part after another

stands_append : (b w : List ℕ) (i j : ℕ) → i + length w ≡ j → (x : List ℕ) → stands_at b i (w ++ x) ≡ (stands_at b i w && stands_at b j x)
unfolding stands_at
stands_append b w i j h x = same_append (drop i b) w x ∙ rw (drop-drop (length w) i b, h)

stands_none : (b : List ℕ) (i : ℕ) → stands_at b i [] ≡ true
unfolding stands_at
stands_none b i = same_refl []

-- ---- a word

four_bytes : (b : List ℕ) (i : ℕ) → i + 4 ≤ length b → take 4 (drop i b) ≡ get_or b i 0 ∷ get_or b (i + 1) 0 ∷ get_or b (i + 2) 0 ∷ get_or b (i + 3) 0 ∷ []
four_bytes b i h =
    let one : i + 1 ≡ suc i = omega arith in
    let two : i + 2 ≡ suc (suc i) = omega arith in
    let three : i + 3 ≡ suc (suc (suc i)) = omega arith in
    rw (
      one,
      two,
      three,
      drop-cons b i 0 (omega arith),
      drop-cons b (suc i) 0 (omega arith),
      drop-cons b (suc (suc i)) 0 (omega arith),
      drop-cons b (suc (suc (suc i))) 0 (omega arith),
    )

-- four bytes make a word exactly where they are its bytes
bytes_of : (p q r s v : ℕ) → p < 256 → q < 256 → r < 256 → s < 256 → v < 2 ^ 32
    → eqb (from_le_bytes w32 (p ∷ q ∷ r ∷ s ∷ [])) v ≡ same (p ∷ q ∷ r ∷ s ∷ []) (u32_bytes v)
bytes_of p q r s v a b c d h =
    let bs : List ℕ = p ∷ q ∷ r ∷ s ∷ [] in
    either (eqb (from_le_bytes w32 bs) v)
    (λ e. e ∙ sym (rw (le_bytes_4 bs v refl small (sym (eqb-true _ v e))) (same_refl bs)))
    (λ e. e ∙ sym (same_not bs (u32_bytes v) (λ k. eqb-false _ v e (ap (from_le_bytes w32) k ∙ from_le_bytes-to_le_bytes_4 v h))))
  where
    small : (i : ℕ) → get_or (p ∷ q ∷ r ∷ s ∷ []) i 0 < 256
    small zero = a
    small (suc zero) = b
    small (suc (suc zero)) = c
    small (suc (suc (suc zero))) = d
    small (suc (suc (suc (suc i)))) = omega arith

-- ---- words

-- the loop that compares b from index at on with words: the answer is that of what is left after i words
pub record Reading (b ws : List ℕ) (at i : ℕ) : Type 0 where
  pub bound : i ≤ length ws
  pub rest : stands_at b at (u32s ws) ≡ stands_at b (at + 4 * i) (u32s (drop i ws))

module _ (b ws : List ℕ) (at : ℕ) where
  module _ {i n : ℕ} (room : at + 4 * length ws ≤ length b) (small : (k : ℕ) → get_or b k 0 < 256) (m : Reading b ws at i) (h : i < length ws) (f : get_or ws i 0 < 2 ^ 32)
      (e : n ≡ from_le_bytes w32 (get_or b (at + 4 * i) 0 ∷ get_or b (at + 4 * i + 1) 0 ∷ get_or b (at + 4 * i + 2) 0 ∷ get_or b (at + 4 * i + 3) 0 ∷ [])) where
    word_stands : eqb n (get_or ws i 0) ≡ stands_at b (at + 4 * i) (u32_bytes (get_or ws i 0))
    unfolding stands_at
    word_stands =
        rw (e, four_bytes b (at + 4 * i) (omega arith))
        (bytes_of _ _ _ _ (get_or ws i 0) (small (at + 4 * i)) (small (at + 4 * i + 1)) (small (at + 4 * i + 2)) (small (at + 4 * i + 3)) f)

    after_word : stands_at b at (u32s ws) ≡ (eqb n (get_or ws i 0) && stands_at b (at + 4 * (i + 1)) (u32s (drop (i + 1) ws)))
    unfolding u32s flat_map
    after_word =
        m.rest ∙ rw (drop-cons ws i 0 h, add-one i)
        (stands_append b (u32_bytes (get_or ws i 0)) (at + 4 * i) (at + 4 * suc i) (omega arith) (u32s (drop (suc i) ws)) ∙ rw word_stands)

    pub reading_turn : n ≡ get_or ws i 0 → Reading b ws at (i + 1)
    reading_turn k = record { bound = omega arith; rest = after_word ∙ rw (eq-eqb n (get_or ws i 0) k) }

    pub reading_stop : (n ≡ get_or ws i 0 → ⊥) → false ≡ stands_at b at (u32s ws)
    reading_stop k = sym (after_word ∙ rw (ne_eqb n (get_or ws i 0) k))

  pub reading_last : {i : ℕ} → Reading b ws at i → length ws ≤ i → true ≡ stands_at b at (u32s ws)
  unfolding u32s flat_map
  reading_last {i} m h = sym (m.rest ∙ rw (drop_of_length-le ws h) (stands_none b (at + 4 * i)))

-- ---- entries

-- entries stand where each stands
entries_stand : (b : List ℕ) (r : Region) (i n at : ℕ)
    → stands_at b (at + entry_size r * i) (entries_from r i n) ≡ list_all (λ k. stands_at b (at + entry_size r * k) (u32s (entry r k))) (range_with_len i n)
unfolding entries_from
entries_stand b r i zero at = stands_none b (at + entry_size r * i)
entries_stand b r i (suc n) at =
    let e : at + entry_size r * i + length (u32s (entry r i)) ≡ at + entry_size r * suc i = omega (arith, length_entry r i) in
    stands_append b (u32s (entry r i)) (at + entry_size r * i) (at + entry_size r * suc i) e (entries_from r (suc i) n)
    ∙ rw (add-one i, entries_stand b r (suc i) n at)

pub blocks_stand : (b : List ℕ) (n : ℕ)
    → list_all (λ i. stands_at b (96 + 16 * i) (u32s (entry SavedBlocks i))) (range_with_len 0 n) ≡ stands_at b 96 (entries_from SavedBlocks 0 n)
blocks_stand b n = sym (entries_stand b SavedBlocks 0 n 96)

pub records_stand : (b : List ℕ) (n : ℕ)
    → list_all (λ i. stands_at b (120 + 16 * n + 24 * i) (u32s (entry Objects i))) (range_with_len 0 n) ≡ stands_at b (120 + 16 * n) (entries_from Objects 0 n)
records_stand b n =
    let z : 120 + 16 * n + 24 * 0 ≡ 120 + 16 * n = omega arith in
    sym (rw z at (entries_stand b Objects 0 n (120 + 16 * n)))

-- ---- zeros

-- the largest of bytes, and of a, is zero where all are
zeros_from : (a : ℕ) (xs : List ℕ) → fold (λ h x. max h x) a xs ≡ 0 → (a ≡ 0) × (xs ≡ replicate (length xs) 0)
zeros_from a [] e = (e, refl)
zeros_from a (x ∷ xs) e =
    let p = zeros_from (max a x) xs e in
    let z : x ≡ 0 = omega (arith, p.0) in
    (omega (arith, p.0), ap₂ (λ (y : ℕ) (ys : List ℕ). y ∷ ys) z p.1)

zeros_most : (n : ℕ) → fold (λ h x. max h x) 0 (replicate n 0) ≡ 0
zeros_most zero = refl
zeros_most (suc n) = zeros_most n

pub zeros_are : (xs : List ℕ) → eqb (fold (λ h x. max h x) 0 xs) 0 ≡ same xs (replicate (length xs) 0)
zeros_are xs =
    let m : ℕ = fold (λ h x. max h x) 0 xs in
    either (eqb m 0) (λ e. e ∙ sym (ap (same xs) (sym (zeros_from 0 xs (eqb-true m 0 e)).1) ∙ same_refl xs))
    (λ e. e ∙ sym (same_not xs (replicate (length xs) 0) (λ k. eqb-false m 0 e (ap (fold (λ h x. max h x) 0) k ∙ zeros_most (length xs)))))

-- ---- the whole blob

-- bytes of the blob's length are the blob where they have each part
module _ (n : ℕ) (b : List ℕ) (l : length b ≡ 144 + 48 * n) where
  pub parts_stand : same b (file_wrapper n)
      ≡ (stands_at b 0 (file_head n)
      && (stands_at b 96 (entries_from SavedBlocks 0 n)
      && (stands_at b (96 + 16 * n) (u32s (replicate 6 0))
      && (stands_at b (120 + 16 * n) (entries_from Objects 0 n) && stands_at b (120 + 40 * n) (replicate (24 + 8 * n) 0)))))
  unfolding stands_at
  parts_stand =
      ap (λ (x : List ℕ). same x (file_wrapper n)) (sym (take_all (length (file_wrapper n)) b (omega (arith, length_file_wrapper n))))
      ∙ ap (stands_at b 0) (file_wrapper_is n)
      ∙ rw (
        stands_append b (file_head n) 0 96 (omega (arith, length_head n)),
        stands_append b (entries_from SavedBlocks 0 n) 96 (96 + 16 * n) (omega (arith, length_entries SavedBlocks 0 n)),
        stands_append b (u32s (replicate 6 0)) (96 + 16 * n) (120 + 16 * n) (omega (arith, length_u32s (replicate 6 0))),
        stands_append b (entries_from Objects 0 n) (120 + 16 * n) (120 + 40 * n) (omega (arith, length_entries Objects 0 n)),
      )

  pub zeros_stand : {p : Bool} → p ≡ same (take (length b - (120 + 40 * n)) (drop (120 + 40 * n) b)) (replicate (length (take (length b - (120 + 40 * n)) (drop (120 + 40 * n) b))) 0)
      → p ≡ stands_at b (120 + 40 * n) (replicate (24 + 8 * n) 0)
  unfolding stands_at
  zeros_stand e =
      let k : length b - (120 + 40 * n) ≡ 24 + 8 * n = omega arith in
      let z : length (take (24 + 8 * n) (drop (120 + 40 * n) b)) ≡ 24 + 8 * n = omega (arith, length-take (24 + 8 * n) (drop (120 + 40 * n) b), length-drop (120 + 40 * n) b) in
      e ∙ rw (k, z, length-replicate)

-- ---- whether bytes are the blob

pub length_stands : (n : ℕ) (b : List ℕ) {s : ℕ} → s ≡ length (file_wrapper n) → (length b ≡ s → ⊥) → false ≡ same b (file_wrapper n)
length_stands n b e k = sym (same_not b (file_wrapper n) (λ i. k (ap length i ∙ sym e)))

pub ruleset standing = (length_stands, parts_stand, zeros_stand)

pub many_not : (n : ℕ) (b : List ℕ) → 349522 < n → false ≡ is_file_wrapper n b
unfolding is_file_wrapper
many_not n b h = simp (lt-leb n 349522 h)

pub is_blob : {n m : ℕ} (b : List ℕ) {p : Bool} → n ≤ 349522 → m ≡ n → p ≡ same b (file_wrapper m) → p ≡ is_file_wrapper n b
unfolding is_file_wrapper
is_blob {n} b h e k = simp (le-leb n 349522 h) (rw e at k)
