-- What stands end to end stands where its offsets say: the regions of the metadata blob and their entries, strings, and the payloads of arrays.
-- Assumes nothing.
use mathlib.Core.Path.{◌≡◌, refl, sym, ap, ◌∙◌}
use mathlib.Core.List.{List, [], ◌∷◌, ◌++◌, append_assoc, append-nil, map, flat_map}
use Prim.Native.Nat.{ℕ, zero, suc, ◌+◌, ◌-◌, ◌*◌, ◌≤◌, ◌<◌}
use native.Mathlib.Nat.{add-zero, zero-add, suc-add}
use native.Mathlib.Omega.{arith}
use lib.ListN.{length, get_or, take, drop, length-append, length-map}
use lib.Seq.{slice, take_at, drop_at, take-nil, drop-nil, take-take}
use Rattle.writer.specs.Array.{Array, no_array, payload, payloads, payload_spans}
use Rattle.writer.specs.FileWrapper.{Region, SavedBlocks, Objects, u32_bytes, u32s, name_heap, class_entries, entry, zero_entry, entries_from, region, regions, offsets_from, file_wrapper}
use Rattle.writer.specs.Spans.{offset_at, end_at, string_at, joined, spans_from}
use Rattle.writer.proofs.FileWrapperLaws.{length_u32s, entry_size, length_entries, entries_split, offsets_are, length_offsets}

part_at : (p q r : List ℕ) (a e : ℕ) → length p ≡ a → a + length q ≡ e → slice a e (p ++ (q ++ r)) ≡ q
part_at p q r a e h k =
    ap (λ (l : List ℕ). drop a (take e l)) (sym (append_assoc p q r))
    ∙ ap (drop a) (take_at (p ++ q) r e (length-append p q ∙ ap (λ (n : ℕ). n + length q) h ∙ k))
    ∙ drop_at p q a h

pub u32s_cons : (v : ℕ) (vs : List ℕ) → u32s (v ∷ vs) ≡ u32_bytes v ++ u32s vs
unfolding u32s flat_map
u32s_cons v vs = refl

-- ---- regions

pub region_count : (n : ℕ) → length (regions n) ≡ 7
unfolding regions
region_count n = refl

first_offset : (o : ℕ) (rs : List (List ℕ)) → get_or (offsets_from o rs) 0 0 ≡ o
unfolding offsets_from
first_offset o [] = refl
first_offset o (r ∷ rs) = refl

-- region k of those that follow p, which ends at offset o
regions_from : (p : List ℕ) (o : ℕ) (rs : List (List ℕ)) → length p ≡ o → (k : ℕ) → k < length rs
    → slice (get_or (offsets_from o rs) k 0) (get_or (offsets_from o rs) (suc k) 0) (p ++ flat_map (λ r. r) rs) ≡ get_or rs k []
unfolding offsets_from flat_map
regions_from p o [] h k l = absurd (omega arith)
regions_from p o (r ∷ rs) h zero l =
    ap (λ (e : ℕ). slice o e (p ++ (r ++ flat_map (λ r. r) rs))) (first_offset (o + length r) rs)
    ∙ part_at p r (flat_map (λ r. r) rs) o (o + length r) h refl
regions_from p o (r ∷ rs) h (suc k) l =
    ap (λ (x : List ℕ). slice (get_or (offsets_from (o + length r) rs) k 0) (get_or (offsets_from (o + length r) rs) (suc k) 0) x) (sym (append_assoc p r (flat_map (λ r. r) rs)))
    ∙ regions_from (p ++ r) (o + length r) rs (length-append p r ∙ ap (λ (n : ℕ). n + length r) h) k (omega arith)

-- the regions of the blob for n objects are where its offsets say
pub file_regions : (n k : ℕ) → k < length (regions n)
    → slice (get_or (offsets_from 56 (regions n)) k 0) (get_or (offsets_from 56 (regions n)) (suc k) 0) (file_wrapper n) ≡ get_or (regions n) k []
unfolding file_wrapper
file_regions n k h =
    let w : List ℕ = u32s (4 ∷ 2 ∷ offsets_from 56 (regions n)) in
    ap (λ (x : List ℕ). slice (get_or (offsets_from 56 (regions n)) k 0) (get_or (offsets_from 56 (regions n)) (suc k) 0) x)
    (sym (append_assoc w name_heap (flat_map (λ r. r) (regions n))))
    ∙ regions_from (w ++ name_heap) 56 (regions n) (length-append w name_heap ∙ ap (λ (m : ℕ). m + 16) (length_offsets n)) k h

-- a region ends where the next one begins
pub offset_next : (o : ℕ) (rs : List (List ℕ)) (k : ℕ) → k < length rs
    → get_or (offsets_from o rs) (suc k) 0 ≡ get_or (offsets_from o rs) k 0 + length (get_or rs k [])
unfolding offsets_from
offset_next o [] k h = absurd (omega arith)
offset_next o (r ∷ rs) zero h = first_offset (o + length r) rs
offset_next o (r ∷ rs) (suc k) h = offset_next (o + length r) rs k (omega arith)

-- what stands before the regions
pub file_words : (n : ℕ) → slice 0 40 (file_wrapper n) ≡ u32s (4 ∷ 2 ∷ offsets_from 56 (regions n))
unfolding file_wrapper
file_words n = take_at (u32s (4 ∷ 2 ∷ offsets_from 56 (regions n))) (name_heap ++ flat_map (λ r. r) (regions n)) 40 (length_offsets n)

pub file_heap : (n : ℕ) → slice 40 56 (file_wrapper n) ≡ name_heap
unfolding file_wrapper
file_heap n = part_at (u32s (4 ∷ 2 ∷ offsets_from 56 (regions n))) name_heap (flat_map (λ r. r) (regions n)) 40 56 (length_offsets n) refl

-- ---- entries

-- a part of a part
slice_within : (b : List ℕ) (a e i j : ℕ) → a + j ≤ e → slice i j (slice a e b) ≡ slice (a + i) (a + j) b
slice_within b zero e i j h = simp (zero-add, take-take j e b (omega arith))
slice_within b (suc a) zero i j h = absurd (omega arith)
slice_within [] (suc a) (suc e) i j h = simp (take-nil, drop-nil)
slice_within (x ∷ b) (suc a) (suc e) i j h = rw (suc-add a i, suc-add a j) (slice_within b a e i j (omega arith))

-- region k of the blob, where it is one of entries
module _ (r : Region) (n k : ℕ) (h : k < length (regions n)) (is : get_or (regions n) k [] ≡ region r n) where
  abbrev start : ℕ
  start = get_or (offsets_from 56 (regions n)) k 0

  -- what stands in the region stands in the blob
  in_region : (p vs q : List ℕ) (a : ℕ) → region r n ≡ p ++ (u32s vs ++ q) → start + length p ≡ a → slice a (a + 4 * length vs) (file_wrapper n) ≡ u32s vs
  in_region p vs q a e l =
      let i : ℕ = length p in
      let j : ℕ = length p + 4 * length vs in
      let z : start + j ≡ a + 4 * length vs = omega arith in
      let o = offset_next 56 (regions n) k h in
      rw (← z, ← l)
      (sym (slice_within (file_wrapper n) start (get_or (offsets_from 56 (regions n)) (suc k) 0) i j
      (omega (arith, o, ap length (is ∙ e), length-append p (u32s vs ++ q), length-append (u32s vs) q, length_u32s vs)))
      ∙ ap (slice i j) (file_regions n k h ∙ is ∙ e)
      ∙ part_at p (u32s vs) q i j refl (omega (arith, length_u32s vs)))

  entry_at : (i a : ℕ) → i < n → start + (4 * length (zero_entry r) + entry_size r * i) ≡ a → slice a (a + 4 * length (entry r i)) (file_wrapper n) ≡ u32s (entry r i)
  unfolding region entries_from
  entry_at i a m l =
      let z : List ℕ = u32s (zero_entry r) in
      let x : List ℕ = entries_from r 0 i in
      let y : List ℕ = entries_from r (suc i) (n - suc i) in
      let c : n ≡ i + suc (n - suc i) = omega arith in
      let s : entries_from r 0 n ≡ x ++ (u32s (entry r i) ++ y) = ap (entries_from r 0) c ∙ rw zero-add at (entries_split r 0 i (suc (n - suc i))) in
      in_region (z ++ x) (entry r i) y a (ap (λ (t : List ℕ). z ++ t) s ∙ sym (append_assoc z x (u32s (entry r i) ++ y)))
      (omega (arith, length-append z x, length_u32s (zero_entry r), length_entries r 0 i))

module _ (n : ℕ) where
  -- the classes
  pub classes_at : slice 56 88 (file_wrapper n) ≡ class_entries
  unfolding regions
  classes_at = rw (offsets_are n) at (file_regions n 0 (omega arith))

  -- the saved block 0, and that of object i
  pub block_0 : slice 88 96 (file_wrapper n) ≡ u32s (0 ∷ 0 ∷ [])
  unfolding regions region
  block_0 = in_region SavedBlocks n 1 (omega arith) refl [] (zero_entry SavedBlocks) (entries_from SavedBlocks 0 n) 88 refl (rw (offsets_are n))

  pub block_at_lem : (i : ℕ) → i < n → slice (96 + 16 * i) (96 + 16 * i + 16) (file_wrapper n) ≡ u32s (1 ∷ 1 ∷ 1 ∷ i ∷ [])
  unfolding regions
  block_at_lem i h = entry_at SavedBlocks n 1 (omega arith) refl i (96 + 16 * i) h (rw (offsets_are n) (omega arith))

  -- the record of object i
  pub record_at : (i : ℕ) → i < n → slice (120 + 16 * n + 24 * i) (120 + 16 * n + 24 * i + 24) (file_wrapper n) ≡ u32s (1 ∷ 0 ∷ 0 ∷ (i + 1) ∷ 0 ∷ (i + 1) ∷ [])
  unfolding regions
  record_at i h = entry_at Objects n 2 (omega arith) refl i (120 + 16 * n + 24 * i) h (rw (offsets_are n) (omega arith))

  -- the normal block 0
  pub normal_0 : slice (120 + 40 * n) (128 + 40 * n) (file_wrapper n) ≡ u32s (0 ∷ 0 ∷ [])
  unfolding regions
  normal_0 = rw (offsets_are n) at (file_regions n 3 (omega arith))

-- ---- strings, and so payloads

pub joined_cons : (s : List ℕ) (ss : List (List ℕ)) → joined (s ∷ ss) ≡ s ++ joined ss
unfolding flat_map
joined_cons s ss = refl

pub joined_append : (ss ts : List (List ℕ)) → joined (ss ++ ts) ≡ joined ss ++ joined ts
unfolding flat_map
joined_append [] ts = refl
joined_append (s ∷ ss) ts = ap (λ (r : List ℕ). s ++ r) (joined_append ss ts) ∙ sym (append_assoc s (joined ss) (joined ts))

pub length_joined : (ss ts : List (List ℕ)) → length (joined (ss ++ ts)) ≡ length (joined ss) + length (joined ts)
length_joined ss ts = ap length (joined_append ss ts) ∙ length-append (joined ss) (joined ts)

pub spans_none : (o : ℕ) → spans_from o [] ≡ []
unfolding spans_from
spans_none o = refl

pub spans_cons : (o : ℕ) (s : List ℕ) (ss : List (List ℕ)) → spans_from o (s ∷ ss) ≡ o ∷ length s ∷ spans_from (o + length s) ss
unfolding spans_from
spans_cons o s ss = refl

pub spans_append : (o : ℕ) (ss ts : List (List ℕ)) → spans_from o (ss ++ ts) ≡ spans_from o ss ++ spans_from (o + length (joined ss)) ts
unfolding spans_from flat_map
spans_append o [] ts = rw (add-zero o)
spans_append o (s ∷ ss) ts =
    let e : o + length s + length (joined ss) ≡ o + length (s ++ joined ss) = omega (arith, length-append s (joined ss)) in
    ap (λ (r : List ℕ). o ∷ length s ∷ r) (spans_append (o + length s) ss ts ∙ rw e)

pub length_spans : (o : ℕ) (ss : List (List ℕ)) → length (spans_from o ss) ≡ 2 * length ss
unfolding spans_from
length_spans o [] = refl
length_spans o (s ∷ ss) = omega (arith, length_spans (o + length s) ss)

pub length_payload_spans : (o : ℕ) (xs : List Array) → length (payload_spans o xs) ≡ 2 * length xs
length_payload_spans o xs = length_spans o (map payload xs) ∙ ap (λ (n : ℕ). 2 * n) (length-map xs payload)

span_of : (p : List ℕ) (o : ℕ) → length p ≡ o → (xs : List Array) (i : ℕ) → i < length xs
    → string_at (p ++ payloads xs) (payload_spans o xs) i ≡ payload (get_or xs i no_array)
unfolding payloads spans_from flat_map
span_of p o h [] i l = absurd (omega arith)
span_of p o h (a ∷ xs) zero l =
    ap (take (length (payload a))) (drop_at p (payload a ++ payloads xs) o h) ∙ take_at (payload a) (payloads xs) (length (payload a)) refl
span_of p o h (a ∷ xs) (suc i) l =
    let j : 2 * suc i ≡ suc (suc (2 * i)) = omega arith in
    let k : 2 * suc i + 1 ≡ suc (suc (2 * i + 1)) = omega arith in
    rw (k, j)
    (ap (λ (x : List ℕ). string_at x (payload_spans (o + length (payload a)) xs) i) (sym (append_assoc p (payload a) (payloads xs)))
    ∙ span_of (p ++ payload a) (o + length (payload a)) (length-append p (payload a) ∙ ap (λ (n : ℕ). n + length (payload a)) h) xs i (omega arith))

-- the span of array i leads to its own payload
pub payload_at : (xs : List Array) (i : ℕ) → i < length xs → string_at (payloads xs) (payload_spans 0 xs) i ≡ payload (get_or xs i no_array)
payload_at xs i h = span_of [] 0 refl xs i h

-- where the span of array j begins and ends: payloads stand end to end
pub span_offset : (o : ℕ) (xs : List Array) (j : ℕ) → j < length xs → offset_at (payload_spans o xs) j ≡ o + length (payloads (take j xs))
unfolding payloads spans_from flat_map
span_offset o [] j h = absurd (omega arith)
span_offset o (a ∷ xs) zero h = omega arith
span_offset o (a ∷ xs) (suc j) h =
    let k : 2 * suc j ≡ suc (suc (2 * j)) = omega arith in
    rw k (span_offset (o + length (payload a)) xs j (omega arith) ∙ omega (arith, length-append (payload a) (payloads (take j xs))))

pub span_end : (o : ℕ) (xs : List Array) (j : ℕ) → j < length xs → end_at (payload_spans o xs) j ≡ o + length (payloads (take (suc j) xs))
unfolding payloads spans_from flat_map
span_end o [] j h = absurd (omega arith)
span_end o (a ∷ xs) zero h = ap (λ (l : List ℕ). o + length l) (sym (append-nil (payload a)))
span_end o (a ∷ xs) (suc j) h =
    let k : 2 * suc j ≡ suc (suc (2 * j)) = omega arith in
    let m : 2 * suc j + 1 ≡ suc (suc (2 * j + 1)) = omega arith in
    rw (m, k) (span_end (o + length (payload a)) xs j (omega arith) ∙ omega (arith, length-append (payload a) (payloads (take (suc j) xs))))

pub payloads_within : (xs : List Array) (j : ℕ) → length (payloads (take j xs)) ≤ length (payloads xs)
unfolding payloads flat_map
payloads_within [] zero = omega arith
payloads_within [] (suc j) = omega arith
payloads_within (a ∷ xs) zero = omega arith
payloads_within (a ∷ xs) (suc j) =
    omega (arith, length-append (payload a) (payloads (take j xs)), length-append (payload a) (payloads xs), payloads_within xs j)
