-- The laws of the metadata blob: its words, its regions, where they end, and writing them one after another.
-- Assumes nothing.
use mathlib.Core.Path.{◌≡◌, refl, sym, ap, ◌∙◌}
use mathlib.Core.List.{List, [], ◌∷◌, ◌++◌, flat_map, append_assoc, append-nil}
use Prim.Native.Nat.{ℕ, zero, suc, ◌+◌, ◌-◌, ◌*◌, ◌^◌, ◌≤◌, ◌<◌, min}
use native.Mathlib.Nat.{add-zero, zero-add, suc-add, mul-suc}
use native.Mathlib.Numerals.{add-one}
use native.Mathlib.Omega.{arith}
use borrow.Author.Tests.{le-leb, lt-leb}
use borrow.Rule.Slice.PartMut.{put_mid}
use Rattle.std.specs.Int.{w32, to_le_bytes}
use lib.ListN.{length, get_or, take, drop, replicate, length-append, length-take, length-drop, length-replicate, replicate-append-replicate}
use lib.Seq.{length-take-le, take-suc, drop-drop}
use Rattle.text.specs.Buffer.{put, Puts}
use Rattle.text.specs.Result.{ok, error}
use Rattle.text.specs.declared.error.MatError.TheVariants.{OutputTooShort}
use Rattle.std.specs.Prelude.{Ok, Err}
use Rattle.text.proofs.BufferLaws.{put_none, put_front, put_more, put_over, length_put}
use Rattle.writer.specs.FileWrapper.{Region, SavedBlocks, Objects, Dependents, u32_bytes, u32s, name_heap, class_entries, entry, zero_entry, entries_from, region, regions, offsets_from, file_wrapper, build_metadata}
use Rattle.writer.specs.Replies.{BuildsMetadata}
use Rattle.writer.specs.Stages.FileWrapper.{file_head}

-- ---- words

pub length_u32s : (vs : List ℕ) → length (u32s vs) ≡ 4 * length vs
unfolding u32s flat_map
length_u32s [] = refl
length_u32s (v ∷ vs) = omega (arith, length_u32s vs)

pub u32s_append : (vs ws : List ℕ) → u32s (vs ++ ws) ≡ u32s vs ++ u32s ws
unfolding u32s flat_map
u32s_append [] ws = refl
u32s_append (v ∷ vs) ws = ap (λ (r : List ℕ). u32_bytes v ++ r) (u32s_append vs ws)

-- ---- regions

-- the bytes of an object's entry, the same for every object
abbrev pub entry_size : Region → ℕ
entry_size r = 4 * length (entry r 0)

pub length_entry : (r : Region) (i : ℕ) → length (u32s (entry r i)) ≡ entry_size r
length_entry SavedBlocks i = length_u32s (entry SavedBlocks i)
length_entry Objects i = length_u32s (entry Objects i)
length_entry Dependents i = length_u32s (entry Dependents i)

pub length_entries : (r : Region) (i n : ℕ) → length (entries_from r i n) ≡ entry_size r * n
unfolding entries_from
length_entries r i zero = omega arith
length_entries r i (suc n) =
    let e = length_entries r (suc i) n in
    simp (length-append, length_entry, e, mul-suc) (omega arith)

pub length_region : (r : Region) (n : ℕ) → length (region r n) ≡ 4 * length (zero_entry r) + entry_size r * n
unfolding region
length_region r n = simp (length-append, length_u32s, length_entries)

pub entries_split : (r : Region) (k i m : ℕ) → entries_from r k (i + m) ≡ entries_from r k i ++ entries_from r (k + i) m
unfolding entries_from
entries_split r k zero m = simp (zero-add, add-zero)
entries_split r k (suc i) m =
    let e = entries_split r (suc k) i m in
    let n : k + suc i ≡ suc k + i = omega arith in
    rw (suc-add, e, append_assoc, n)

pub entries_more : (r : Region) (i : ℕ) → entries_from r 0 (i + 1) ≡ entries_from r 0 i ++ u32s (entry r i)
unfolding entries_from
entries_more r i = simp (entries_split r 0 i 1, zero-add, append-nil)

-- where the regions begin and end
pub offsets_are : (n : ℕ) → offsets_from 56 (regions n)
    ≡ 56 ∷ 88 ∷ (96 + 16 * n) ∷ (120 + 40 * n) ∷ (128 + 40 * n) ∷ (136 + 48 * n) ∷ (136 + 48 * n) ∷ (144 + 48 * n) ∷ []
unfolding offsets_from regions
offsets_are n =
    let blocks : 88 + (8 + 16 * n) ≡ 96 + 16 * n = omega arith in
    let objects : 96 + 16 * n + (24 + 24 * n) ≡ 120 + 40 * n = omega arith in
    let normal : 120 + 40 * n + 8 ≡ 128 + 40 * n = omega arith in
    let dependents : 128 + 40 * n + (8 + 8 * n) ≡ 136 + 48 * n = omega arith in
    let zeros : 136 + 48 * n + 8 ≡ 144 + 48 * n = omega arith in
    simp (length_region, length_u32s, blocks, objects, normal, dependents, add-zero, zeros)

pub length_offsets : (n : ℕ) → length (u32s (4 ∷ 2 ∷ offsets_from 56 (regions n))) ≡ 40
length_offsets n = simp (offsets_are, length_u32s)

-- ---- the blob as the code has it: words, with the entries of n objects among them

pub head_is : (n : ℕ)
    → u32s (4 ∷ 2 ∷ 56 ∷ 88 ∷ (96 + 16 * n) ∷ (120 + 40 * n) ∷ (128 + 40 * n) ∷ (136 + 48 * n) ∷ (136 + 48 * n) ∷ (144 + 48 * n)
    ∷ 0x00796E61 ∷ 0x69727473 ∷ 0x0000676E ∷ 0 ∷ 0 ∷ 0 ∷ 0 ∷ 0 ∷ 0 ∷ 2 ∷ 0 ∷ 0 ∷ 0 ∷ 0 ∷ []) ≡ file_head n
unfolding file_head u32s flat_map
head_is n = rw (offsets_are n)

pub length_head : (n : ℕ) → length (file_head n) ≡ 96
unfolding file_head
length_head n = simp length-append (omega (arith, length_offsets n, length_u32s (0 ∷ 0 ∷ 0 ∷ 0 ∷ 0 ∷ 2 ∷ 0 ∷ 0 ∷ []), length_u32s (zero_entry SavedBlocks)))

regroup : (w h c u es v eo p x ed z : List ℕ) → w ++ (h ++ (c ++ ((u ++ es) ++ ((v ++ eo) ++ (p ++ ((x ++ ed) ++ z))))))
    ≡ (w ++ (h ++ c) ++ u) ++ (es ++ (v ++ (eo ++ (p ++ (x ++ (ed ++ z))))))
regroup w h c u es v eo p x ed z = simp append_assoc

-- no object has dependents, so that their entries are zeros
dependents_are : (i n : ℕ) → entries_from Dependents i n ≡ replicate (8 * n) 0
unfolding entries_from u32s flat_map
dependents_are i zero = refl
dependents_are i (suc n) =
    let e : 8 * suc n ≡ 8 + 8 * n = omega arith in
    rw (e, dependents_are (suc i) n) (replicate-append-replicate 8 (8 * n) 0)

-- the normal block 0, the dependents' block 0 and blocks, and the last region
zeros_last : (n : ℕ) → replicate 8 0 ++ (replicate 8 0 ++ (entries_from Dependents 0 n ++ replicate 8 0)) ≡ replicate (24 + 8 * n) 0
zeros_last n =
    let e : 8 + (8 + (8 * n + 8)) ≡ 24 + 8 * n = omega arith in
    ap (λ (t : List ℕ). replicate 8 0 ++ (replicate 8 0 ++ (t ++ replicate 8 0))) (dependents_are 0 n)
    ∙ ap (λ (t : List ℕ). replicate 8 0 ++ (replicate 8 0 ++ t)) (replicate-append-replicate (8 * n) 8 0)
    ∙ ap (λ (t : List ℕ). replicate 8 0 ++ t) (replicate-append-replicate 8 (8 * n + 8) 0)
    ∙ replicate-append-replicate 8 (8 + (8 * n + 8)) 0
    ∙ ap (λ (k : ℕ). replicate k 0) e

pub file_wrapper_is : (n : ℕ) → file_wrapper n
    ≡ file_head n ++ (entries_from SavedBlocks 0 n ++ (u32s (replicate 6 0) ++ (entries_from Objects 0 n ++ replicate (24 + 8 * n) 0)))
unfolding file_wrapper file_head regions region u32s flat_map
file_wrapper_is n =
    regroup (u32s (4 ∷ 2 ∷ offsets_from 56 (regions n))) name_heap class_entries (u32s (zero_entry SavedBlocks)) (entries_from SavedBlocks 0 n)
    (u32s (zero_entry Objects)) (entries_from Objects 0 n) (u32_bytes 0 ++ u32_bytes 0) (u32s (zero_entry Dependents)) (entries_from Dependents 0 n) (u32_bytes 0 ++ u32_bytes 0)
    ∙ ap (λ (t : List ℕ). file_head n ++ (entries_from SavedBlocks 0 n ++ (u32s (replicate 6 0) ++ (entries_from Objects 0 n ++ t)))) (zeros_last n)

pub length_file_wrapper : (n : ℕ) → length (file_wrapper n) ≡ 144 + 48 * n
length_file_wrapper n = simp (file_wrapper_is, length-append, length_head, length_entries, length_u32s, length-replicate) (omega arith)

-- ---- writing, one thing after another

pub puts_then : {d d' d'' w x : List ℕ} {i j k : ℕ} → Puts d i w j d' → Puts d' j x k d'' → i + length w + length x ≤ length d → Puts d i (w ++ x) k d''
puts_then {d} {d'} {d''} {w} {x} {i} {j} {k} p q room =
    record {
      end = omega (arith, length-append w x);
      buffer = q.buffer ∙ ap (λ (b : List ℕ). put b j x) p.buffer ∙ put_more d i w x j p.end (omega arith);
    }

pub puts_length : {d d' w : List ℕ} {i j : ℕ} → Puts d i w j d' → i + length w ≤ length d → length d' ≡ length d
puts_length {d} {d'} {w} {i} {j} p room = ap length p.buffer ∙ length_put d i w room

-- a part of a buffer, from index a on, that is overwritten
pub mid_put : (d : List ℕ) (a k : ℕ) (w : List ℕ) → length w ≡ k → a + k ≤ length d → put_mid a k d w ≡ put d a w
mid_put d a k w e h =
    let n : length (take a d ++ w) ≡ a + length w = omega (arith, length-append (take a d) w, length-take-le a d (omega arith)) in
    rw (sym e, drop-drop (length w) a d)
    (sym (append_assoc (take a d) w (drop (a + length w) d)) ∙ sym (put_over d a (take a d) w (omega arith) refl ∙ rw n))

-- w and then x, where x goes after it
put_then : (d w x : List ℕ) (i j : ℕ) {d' d'' : List ℕ} → d' ≡ put d i w → d'' ≡ put d' j x → j ≡ i + length w → j + length x ≤ length d → d'' ≡ put d i (w ++ x)
put_then d w x i j p q e room = q ∙ ap (λ (b : List ℕ). put b j x) p ∙ put_more d i w x j e room

-- ---- the loop that writes words ws to d₀ from index at on: d as it is, with i words written

pub record Writing (ws d₀ : List ℕ) (at : ℕ) (d : List ℕ) (i : ℕ) : Type 0 where
  pub bound : i ≤ length ws
  pub written : d ≡ put d₀ at (u32s (take i ws))

u32s_more : (ws : List ℕ) (i : ℕ) → i < length ws → u32s (take (i + 1) ws) ≡ u32s (take i ws) ++ u32_bytes (get_or ws i 0)
unfolding u32s flat_map
u32s_more ws i h =
    rw (add-one, take-suc ws i 0 h) (u32s_append (take i ws) (get_or ws i 0 ∷ []) ∙ ap (λ (r : List ℕ). u32s (take i ws) ++ r) (append-nil (u32_bytes (get_or ws i 0))))

module _ (ws d₀ : List ℕ) (at : ℕ) where
  pub write_start : Writing ws d₀ at d₀ 0
  unfolding u32s flat_map
  write_start = record { bound = omega arith; written = sym (put_none d₀ at) }

  pub write_turn : {d w : List ℕ} {i : ℕ} → at + 4 * length ws ≤ length d₀ → Writing ws d₀ at d i → i < length ws → w ≡ to_le_bytes w32 (get_or ws i 0)
      → Writing ws d₀ at (put_mid (at + 4 * i) (at + 4 * i + 4 - (at + 4 * i)) d w) (i + 1)
  write_turn {d} {w} {i} room m h b =
      let l = length_u32s (take i ws) in
      let t = length-take-le i ws m.bound in
      let s : length d ≡ length d₀ = ap length m.written ∙ length_put d₀ at (u32s (take i ws)) (omega arith) in
      let p = mid_put d (at + 4 * i) (at + 4 * i + 4 - (at + 4 * i)) w (omega (arith, ap length b)) (omega arith) in
      record { bound = omega arith; written = rw (u32s_more ws i h, sym b) (put_then _ _ _ _ _ m.written p (omega arith) (omega (arith, ap length b))) }

-- ---- a loop that writes the entries of a region after what stands before them: d as it is, with i entries written

pub record Entering (r : Region) (n : ℕ) (front d₀ d : List ℕ) (i : ℕ) : Type 0 where
  pub room : length front + entry_size r * n ≤ length d₀
  pub written : d ≡ put d₀ 0 (front ++ entries_from r 0 i)

entries_fit : (r : Region) (i n : ℕ) → i < n → entry_size r * (i + 1) ≤ entry_size r * n
entries_fit SavedBlocks i n h = omega arith
entries_fit Objects i n h = omega arith
entries_fit Dependents i n h = omega arith

module _ (r : Region) (n : ℕ) (front d₀ : List ℕ) where
  pub entries_start : {d : List ℕ} → length front + entry_size r * n ≤ length d₀ → d ≡ put d₀ 0 front → Entering r n front d₀ d 0
  unfolding entries_from
  entries_start h e = record { room = h; written = rw append-nil e }

  pub entries_turn : {d d' : List ℕ} {i at : ℕ} → Entering r n front d₀ d i → i < n → at ≡ length front + entry_size r * i → d' ≡ put d at (u32s (entry r i))
      → Entering r n front d₀ d' (i + 1)
  entries_turn {d} {d'} {i} {at} m h e p =
      let k : front ++ entries_from r 0 (i + 1) ≡ (front ++ entries_from r 0 i) ++ u32s (entry r i) =
      rw (entries_more r i) (sym (append_assoc front (entries_from r 0 i) (u32s (entry r i)))) in
      let l : length (front ++ entries_from r 0 i) ≡ length front + entry_size r * i = omega (arith, length-append front (entries_from r 0 i), length_entries r 0 i) in
      let f = entries_fit r i n h in
      let s = length_entry r i in
      record { room = m.room; written = rw k (put_then _ _ _ _ _ m.written p (omega arith) (omega arith)) }

-- ---- the whole blob, part after part

-- what stands before the records of n objects
abbrev pub before_records : ℕ → List ℕ
before_records n = file_head n ++ entries_from SavedBlocks 0 n ++ u32s (replicate 6 0)

module _ (n : ℕ) (d₀ : List ℕ) where
  pub head_written : {d : List ℕ} → 144 + 48 * n ≤ length d₀ → (ws : List ℕ) → u32s ws ≡ file_head n → d ≡ put d₀ 0 (u32s ws) → Entering SavedBlocks n (file_head n) d₀ d 0
  head_written room ws e p = entries_start SavedBlocks n (file_head n) d₀ (omega (arith, length_head n)) (rw e at p)

  length_blocks : length (file_head n ++ entries_from SavedBlocks 0 n) ≡ 96 + 16 * n
  length_blocks = omega (arith, length_head n, length_entries SavedBlocks 0 n, length-append (file_head n) (entries_from SavedBlocks 0 n))

  length_before : length (before_records n) ≡ 120 + 16 * n
  length_before = omega (arith, length_blocks, length-append (file_head n ++ entries_from SavedBlocks 0 n) (u32s (replicate 6 0)), length_u32s (replicate 6 0))

  pub block_written : {d d' : List ℕ} {i : ℕ} → Entering SavedBlocks n (file_head n) d₀ d i → i < n → d' ≡ put d (96 + 16 * i) (u32s (entry SavedBlocks i))
      → Entering SavedBlocks n (file_head n) d₀ d' (i + 1)
  block_written m h p = entries_turn SavedBlocks n (file_head n) d₀ m h (omega (arith, length_head n)) p

  pub zeros_written : {d d' : List ℕ} {i : ℕ} → 144 + 48 * n ≤ length d₀ → Entering SavedBlocks n (file_head n) d₀ d i → i ≡ n → d' ≡ put d (96 + 16 * n) (u32s (replicate 6 0))
      → Entering Objects n (before_records n) d₀ d' 0
  zeros_written {d} room m e p =
      let w : d ≡ put d₀ 0 (file_head n ++ entries_from SavedBlocks 0 n) = rw e at m.written in
      entries_start Objects n (before_records n) d₀ (omega (arith, length_before))
      (put_then _ _ _ _ _ w p (omega (arith, length_blocks)) (omega (arith, length_u32s (replicate 6 0))))

  pub record_written : {d d' : List ℕ} {i : ℕ} → Entering Objects n (before_records n) d₀ d i → i < n → d' ≡ put d (120 + 16 * n + 24 * i) (u32s (entry Objects i))
      → Entering Objects n (before_records n) d₀ d' (i + 1)
  record_written m h p = entries_turn Objects n (before_records n) d₀ m h (omega (arith, length_before)) p

  pub file_written : {d w : List ℕ} {i : ℕ} → 144 + 48 * n ≤ length d₀ → Entering Objects n (before_records n) d₀ d i → i ≡ n
      → w ≡ replicate (length (take (144 + 48 * n - (120 + 40 * n)) (drop (120 + 40 * n) d))) 0
      → put_mid (120 + 40 * n) (144 + 48 * n - (120 + 40 * n)) d w ≡ put d₀ 0 (file_wrapper n)
  file_written {d} {w} room m e f =
      let front : List ℕ = before_records n ++ entries_from Objects 0 n in
      let k : ℕ = 144 + 48 * n - (120 + 40 * n) in
      let p : d ≡ put d₀ 0 front = rw e at m.written in
      let l : length front ≡ 120 + 40 * n = omega (arith, length_before, length_entries Objects 0 n, length-append (before_records n) (entries_from Objects 0 n)) in
      let s : length d ≡ length d₀ = ap length p ∙ length_put d₀ 0 front (omega arith) in
      let z : length (take k (drop (120 + 40 * n) d)) ≡ 24 + 8 * n = omega (arith, length-take k (drop (120 + 40 * n) d), length-drop (120 + 40 * n) d) in
      let g : w ≡ replicate (24 + 8 * n) 0 = f ∙ ap (λ (j : ℕ). replicate j 0) z in
      let lw : length w ≡ 24 + 8 * n = ap length g ∙ length-replicate (24 + 8 * n) 0 in
      let whole : front ++ w ≡ file_wrapper n = rw (g, file_wrapper_is n) (simp append_assoc) in
      put_then _ _ _ _ _ p (mid_put d (120 + 40 * n) k w (omega arith) (omega arith)) (omega arith) (omega arith) ∙ ap (put d₀ 0) whole

-- ---- building, for an output of `room` bytes

module _ (n room : ℕ) where
  pub build_many : 349522 < n → build_metadata n room ≡ error (record { number = 32; place = n })
  unfolding build_metadata
  build_many h = simp lt-leb

  pub build_short : n ≤ 349522 → room < 144 + 48 * n → build_metadata n room ≡ error (record { number = 34; place = 144 + 48 * n })
  unfolding build_metadata
  build_short h k =
      let place : min (144 + 48 * n) (2 ^ 64 - 1) ≡ 144 + 48 * n = omega arith in
      simp (le-leb n 349522 h, length_file_wrapper, lt-leb (144 + 48 * n) room k, place)

  pub builds : n ≤ 349522 → 144 + 48 * n ≤ room → build_metadata n room ≡ ok (file_wrapper n)
  unfolding build_metadata
  builds h k = simp (le-leb n 349522 h, length_file_wrapper, le-leb (144 + 48 * n) room k)

-- the largest number of objects
pub accepts_most : (room : ℕ) → 16777200 ≤ room → build_metadata 349522 room ≡ ok (file_wrapper 349522)
accepts_most room h = builds 349522 room (omega arith) (omega arith)

-- what the call returns and leaves
module _ {n need : ℕ} (h : n ≤ 349522) (s : need ≡ length (file_wrapper n)) where
  size : need ≡ 144 + 48 * n
  size = s ∙ length_file_wrapper n

  pub short_refused : {d : List ℕ} → length d < need → BuildsMetadata n d (Err (OutputTooShort need)) d
  short_refused {d} k =
      let b = build_short n (length d) h (omega (arith, size)) in
      record { reply = rw (b, size); buffer = rw b }

  pub built : {m k : ℕ} {d d' : List ℕ} → need ≤ length d → m ≡ n → k ≡ need → d' ≡ put d 0 (file_wrapper m) → BuildsMetadata n d (Ok k) d'
  built {m} {k} {d} f e g w =
      let b = builds n (length d) h (omega (arith, size)) in
      record {
        reply = rw b (ap ok (g ∙ s));
        buffer = rw b (w ∙ ap (λ (k : ℕ). put d 0 (file_wrapper k)) e ∙ put_front d (file_wrapper n));
      }
