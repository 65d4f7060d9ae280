-- The blob that the writer builds for n objects is read as n string objects, each with one property: `any`, a heap value of its id less one.
-- Assumes nothing.
use mathlib.Core.Path.{◌≡◌, sym, ap, ◌∙◌}
use mathlib.Core.Bool.{true, false}
use mathlib.Core.List.{List, [], ◌∷◌, ◌++◌}
use Rattle.std.specs.Prelude.{Some}
use Prim.Native.Nat.{ℕ, zero, suc, ◌+◌, ◌-◌, ◌*◌, ◌/◌, ◌%◌, ◌^◌, ◌≤◌, ◌<◌}
use native.Mathlib.Nat.{zero-add, add-zero, add_assoc}
use native.Mathlib.Numerals.{add-one}
use native.Mathlib.Omega.{arith}
use borrow.Author.Tests.{le-leb, lt-ltb, ne_eqb}
use lib.Dec.{eqb}
use lib.ListN.{length, get_or, take}
use lib.Seq.{slice, get_or-append-add, get_or-take, get_or-drop}
use Rattle.text.specs.Result.{ok, check_each}
use Rattle.text.specs.Unicode.{Below}
use Rattle.text.proofs.AsciiLaws.{ascii_well_formed, ascii_lossy}
use Rattle.text.proofs.ResultLaws.{check_each_yes, each_holds}
use Rattle.text.proofs.SameLaws.{same_refl}
use Rattle.text.proofs.utf8.Lossy.{sound_replaced}
use Rattle.writer.specs.FileWrapper.{u32_bytes, u32s, regions, offsets_from, file_wrapper}
use Rattle.writer.proofs.FileWrapperLaws.{offsets_are, length_file_wrapper}
use Rattle.writer.proofs.LayoutLaws.{u32s_cons, region_count, offset_next, file_words, file_heap, classes_at, block_0, block_at_lem, record_at, normal_0}
use Rattle.reader.specs.Blocks.{next_block, block_at, blocks_from, blocks}
use Rattle.reader.specs.Decode.{any_name, string_name}
use Rattle.reader.specs.Names.{pieces, name_bytes, sound_text}
use Rattle.reader.specs.Objects.{check_block, block_start, property_count, record_row, object_of, triples_from, check_triple, check_triples, record_triples, record_properties, object_properties, position, find_property}
use Rattle.reader.specs.Opening.{offset, is_within, is_ordered, check_regions, layout, opened}
use Rattle.reader.specs.Queries.{shown, name_text, check_names, entry_text, entry_of, class_of, object_record, check_object, object_class_text}
use Rattle.reader.specs.Wire.{u32_at}
use Rattle.reader.specs.declared.file_wrapper.FileWrapper.{FileWrapper}
use Rattle.reader.specs.declared.records.ObjectRecord.{ObjectRecord}
use Rattle.reader.proofs.blocks.Laws.{blocks_more, blocks_end}

-- ---- words

same_word : (l m : List ℕ) (i j : ℕ) → ((k : ℕ) → k < 4 → get_or l (i + k) 0 ≡ get_or m (j + k) 0) → u32_at l i ≡ u32_at m j
unfolding u32_at
same_word l m i j f = rw (simp add-zero at (f 0 (omega arith)), f 1 (omega arith), f 2 (omega arith), f 3 (omega arith))

word_in : (b : List ℕ) (a e i : ℕ) → a + i + 4 ≤ e → u32_at (slice a e b) i ≡ u32_at b (a + i)
word_in b a e i h =
    same_word (slice a e b) b i (a + i) (λ k l. get_or-drop a (take e b) (i + k) 0 ∙ rw (add_assoc a i k) (get_or-take e b (a + (i + k)) 0 (omega arith)))

word_after : (p l : List ℕ) (i : ℕ) → u32_at (p ++ l) (length p + i) ≡ u32_at l i
word_after p l i = same_word (p ++ l) l (length p + i) i (λ k h. rw (add_assoc (length p) i k) (get_or-append-add p l (i + k) 0))

first_word : (v : ℕ) (l : List ℕ) → v < 2 ^ 32 → u32_at (u32_bytes v ++ l) 0 ≡ v
unfolding u32_at
first_word v l h =
    let two : v / 256 ≡ v / 256 % 256 + 256 * (v / 65536) = omega arith in
    let three : v / 65536 ≡ v / 65536 % 256 + 256 * (v / 16777216) = omega arith in
    let four : v / 16777216 % 256 ≡ v / 16777216 = omega arith in
    omega (arith, two, three, four)

word_of : (vs : List ℕ) (k : ℕ) → Below (2 ^ 32) vs → k < length vs → u32_at (u32s vs) (4 * k) ≡ get_or vs k 0
word_of [] k f h = absurd (omega arith)
word_of (v ∷ vs) zero f h = rw (u32s_cons v vs) (first_word v (u32s vs) f.0)
word_of (v ∷ vs) (suc k) f h =
    let j : 4 * suc k ≡ 4 + 4 * k = omega arith in
    rw (u32s_cons v vs, j) (word_after (u32_bytes v) (u32s vs) (4 * k) ∙ word_of vs k f.1 (omega arith))

-- word k of the words vs that stand from a on
word_at : (b : List ℕ) (a e : ℕ) (vs : List ℕ) → slice a e b ≡ u32s vs → a + 4 * length vs ≤ e → Below (2 ^ 32) vs → (k : ℕ) → k < length vs
    → u32_at b (a + 4 * k) ≡ get_or vs k 0
word_at b a e vs s l f k h = sym (word_in b a e (4 * k) (omega arith)) ∙ ap (λ (x : List ℕ). u32_at x (4 * k)) s ∙ word_of vs k f h

-- ---- what is read

-- what opening the blob for n objects gives
abbrev pub built : ℕ → FileWrapper
built n = record {
  names = 2;
  classes = 2;
  records = n + 1;
  saveobj_blocks = n + 1;
  normalobj_blocks = 1;
  offsets = 56 ∷ 88 ∷ (96 + 16 * n) ∷ (120 + 40 * n) ∷ (128 + 40 * n) ∷ (136 + 48 * n) ∷ (136 + 48 * n) ∷ (144 + 48 * n) ∷ [];
}

-- the record of object id
abbrev record_of : ℕ → ObjectRecord
record_of id = record { class_id = 1; saveobj_id = id; normalobj_id = 0; dependency_id = id }

module _ (n : ℕ) (few : n ≤ 349522) where
  abbrev b : List ℕ
  b = file_wrapper n

  abbrev w : FileWrapper
  w = built n

  -- ---- the words of the blob

  header_word : (k : ℕ) → k < 10 → u32_at b (4 * k) ≡ get_or (4 ∷ 2 ∷ offsets_from 56 (regions n)) k 0
  header_word k h =
      let s = rw (offsets_are n) at (file_words n) in
      rw (offsets_are n) (rw zero-add at (word_at b 0 40 _ s (omega arith) (omega arith) k h))

  offset_is : (k : ℕ) → k < 8 → offset b k ≡ get_or (offsets_from 56 (regions n)) k 0
  offset_is k h =
      let j : 8 + 4 * k ≡ 4 * suc (suc k) = omega arith in
      rw j (header_word (suc (suc k)) (omega arith))

  class_word : (k : ℕ) → k < 8 → u32_at b (56 + 4 * k) ≡ get_or (0 ∷ 0 ∷ 0 ∷ 0 ∷ 0 ∷ 2 ∷ 0 ∷ 0 ∷ []) k 0
  class_word = word_at b 56 88 (0 ∷ 0 ∷ 0 ∷ 0 ∷ 0 ∷ 2 ∷ 0 ∷ 0 ∷ []) (classes_at n) (omega arith) (omega arith)

  normal_count : u32_at b (120 + 40 * n) ≡ 0
  normal_count = rw add-zero at (word_at b (120 + 40 * n) (128 + 40 * n) (0 ∷ 0 ∷ []) (normal_0 n) (omega arith) (omega arith) 0 (omega arith))

  count_0 : u32_at b 88 ≡ 0
  count_0 = word_at b 88 96 (0 ∷ 0 ∷ []) (block_0 n) (omega arith) (omega arith) 0 (omega arith)

  block_word : (i : ℕ) → i < n → (k : ℕ) → k < 4 → u32_at b (96 + 16 * i + 4 * k) ≡ get_or (1 ∷ 1 ∷ 1 ∷ i ∷ []) k 0
  block_word i h = word_at b (96 + 16 * i) (96 + 16 * i + 16) (1 ∷ 1 ∷ 1 ∷ i ∷ []) (block_at_lem n i h) (omega arith) (omega arith)

  count_1 : (i : ℕ) → i < n → u32_at b (96 + 16 * i) ≡ 1
  count_1 i h = rw add-zero at (block_word i h 0 (omega arith))

  -- ---- blocks

  next_0 : next_block 12 b 88 ≡ 96
  unfolding next_block
  next_0 = rw count_0

  next_1 : (i : ℕ) → i < n → next_block 12 b (96 + 16 * i) ≡ 96 + 16 * (i + 1)
  unfolding next_block
  next_1 i h = rw (count_1 i h) (omega arith)

  block_place : (i : ℕ) → i ≤ n → block_at 12 b 88 (suc i) ≡ 96 + 16 * i
  unfolding block_at
  block_place zero h = next_0
  block_place (suc i) h = ap (next_block 12 b) (block_place i (omega arith)) ∙ rw (← add-one i) (next_1 i (omega arith))

  saved_from : (m i : ℕ) → i + m ≡ n → blocks_from 12 b (96 + 16 * i) (96 + 16 * n) (i + 1) ≡ ok (n + 1)
  saved_from zero i e =
      let z : i ≡ n = omega arith in
      rw z (blocks_end 12 b (96 + 16 * n) (96 + 16 * n) (n + 1) (omega arith))
  saved_from (suc m) i e =
      blocks_more 12 b (96 + 16 * i) (96 + 16 * n) (i + 1) (omega arith) (rw (count_1 i (omega arith)) (omega arith))
      ∙ rw (next_1 i (omega arith)) (saved_from m (i + 1) (omega arith))

  saved_blocks : blocks 12 b 88 (96 + 16 * n) ≡ ok (n + 1)
  saved_blocks = blocks_more 12 b 88 (96 + 16 * n) 0 (omega arith) (rw count_0 (omega arith)) ∙ rw next_0 (saved_from n 0 (omega arith))

  normal_blocks : blocks 12 b (120 + 40 * n) (128 + 40 * n) ≡ ok 1
  unfolding next_block
  normal_blocks =
      let z : next_block 12 b (120 + 40 * n) ≡ 128 + 40 * n = rw normal_count (omega arith) in
      blocks_more 12 b (120 + 40 * n) (128 + 40 * n) 0 (omega arith) (rw normal_count (omega arith))
      ∙ rw z (blocks_end 12 b (128 + 40 * n) (128 + 40 * n) 1 (omega arith))

  -- ---- opening

  ascends : (k : ℕ) → k < 7 → offset b k ≤ offset b (suc k)
  ascends k h = omega (arith, offset_next 56 (regions n) k (omega (arith, region_count n)), offset_is k (omega arith), offset_is (suc k) (omega arith))

  inside : (m k : ℕ) → k + m ≡ 7 → offset b k ≤ length b
  inside zero k e =
      let z : k ≡ 7 = omega arith in
      rw (z, offset_is 7 (omega arith), offsets_are n, length_file_wrapper n) (omega arith)
  inside (suc m) k e = omega (arith, ascends k (omega arith), inside m (suc k) (omega arith))

  within : check_each 3 (is_within b) 0 8 ≡ ok tt
  within = each_holds 3 (is_within b) 8 (λ k h. le-leb (offset b k) (length b) (inside (7 - k) k (omega arith)))

  ordered : (k : ℕ) → k < 8 → is_ordered b k ≡ true
  ordered zero h = le-leb (offset b 0) (offset b 0) (omega arith)
  ordered (suc k) h =
      let z : suc k - 1 ≡ k = omega arith in
      rw z (le-leb (offset b k) (offset b (suc k)) (ascends k (omega arith)))

  in_order : check_each 5 (is_ordered b) 1 8 ≡ ok tt
  in_order = sym (check_each_yes 5 (is_ordered b) 0 8 (omega arith) (ordered 0 (omega arith))) ∙ each_holds 5 (is_ordered b) 8 ordered

  pub built_opens : opened (file_wrapper n) ≡ ok (built n)
  unfolding opened layout check_regions pieces
  built_opens =
      let l = length_file_wrapper n in
      let objects : (120 + 40 * n - (96 + 16 * n)) / 24 ≡ n + 1 = omega arith in
      simp (le-leb (length b) 16777216 (omega arith), ne_eqb (length b) 0 (λ z. omega arith), le-leb 40 (length b) (omega arith), within, in_order)
      (rw (header_word 1 (omega arith), offset_is 0 (omega arith), offset_is 1 (omega arith), offset_is 2 (omega arith), offset_is 3 (omega arith), offset_is 4 (omega arith), offset_is 5 (omega arith), offset_is 6 (omega arith), offset_is 7 (omega arith), offsets_are n, file_heap n, saved_blocks, normal_blocks, objects))

  -- ---- names

  stored : (name_bytes b (get_or w.offsets 0 0) 1 ≡ any_name) × (name_bytes b (get_or w.offsets 0 0) 2 ≡ string_name)
  unfolding name_bytes pieces
  stored = (rw (file_heap n), rw (file_heap n))

  pub names_are : ((shown b w 1).text ≡ any_name) × ((shown b w 2).text ≡ string_name)
  names_are = (rw stored.0 (ascii_lossy any_name (omega arith)), rw stored.1 (ascii_lossy string_name (omega arith)))

  names_sound : ((shown b w 1).replaced ≡ 0) × ((shown b w 2).replaced ≡ 0)
  names_sound = (
    rw stored.0 (sound_replaced any_name (ascii_well_formed any_name (omega arith))),
    rw stored.1 (sound_replaced string_name (ascii_well_formed string_name (omega arith))),
  )

  pub built_name : name_text (file_wrapper n) 1 ≡ ok (sound_text any_name)
  unfolding name_text
  built_name = rw built_opens (rw (names_are.0, names_sound.0))

  -- ---- objects

  module _ (id : ℕ) (least : 1 ≤ id) (most : id ≤ n) where
    its_word : (k j : ℕ) → k < 6 → j ≡ 96 + 16 * n + 24 * id + 4 * k → u32_at b j ≡ get_or (1 ∷ 0 ∷ 0 ∷ id ∷ 0 ∷ id ∷ []) k 0
    its_word k j h e =
        let p : ℕ = 120 + 16 * n + 24 * (id - 1) in
        let z : j ≡ p + 4 * k = omega arith in
        let i : id - 1 + 1 ≡ id = omega arith in
        rw z (word_at b p (p + 24) _ (rw i at (record_at n (id - 1) (omega arith))) (omega arith) (omega arith) k h)

    record_is : object_record b w id ≡ record_of id
    record_is =
        let o : ℕ = 96 + 16 * n + 24 * id in
        rw (its_word 0 o (omega arith) (omega arith), its_word 3 (o + 12) (omega arith) (omega arith), its_word 4 (o + 16) (omega arith) (omega arith), its_word 5 (o + 20) (omega arith) (omega arith))

    pub object_checked : check_object w id ≡ ok tt
    unfolding check_object
    object_checked = simp (le-leb 1 id least, lt-ltb id (n + 1) (omega arith))

    not_0 : eqb id 0 ≡ false
    not_0 = ne_eqb id 0 (λ e. omega arith)

    block_checked : check_block w (record_of id) ≡ ok tt
    unfolding check_block
    block_checked = simp (not_0, lt-ltb id (n + 1) (omega arith))

    start_is : block_start b w (record_of id) ≡ 96 + 16 * (id - 1)
    unfolding block_start
    start_is =
        let i : id ≡ suc (id - 1) = omega arith in
        simp not_0 (ap (block_at 12 b 88) i ∙ block_place (id - 1) (omega arith))

    one_property : property_count b w (record_of id) ≡ 1
    unfolding property_count
    one_property = simp not_0 (rw start_is (count_1 (id - 1) (omega arith)))

    pub built_object : object_of (file_wrapper n) (built n) id ≡ ok (record { class_id = 1; region = 0; block_id = id; property_count = 1 })
    unfolding record_row
    built_object = ap (record_row b w) record_is ∙ simp (block_checked, one_property, not_0)

    pub class_is : class_of b w (object_record b w id).class_id ≡ ok (sound_text string_name)
    unfolding class_of entry_of entry_text check_names
    class_is =
        ap (λ (r : ObjectRecord). class_of b w r.class_id) record_is
        ∙ simp (class_word 4 (omega arith), class_word 5 (omega arith)) (rw (names_are.1, names_sound.1))

    pub built_class : object_class_text (file_wrapper n) id ≡ ok (sound_text string_name)
    unfolding object_class_text
    built_class = rw (built_opens, object_checked) class_is

    pub triples_are : record_triples b w (object_record b w id) ≡ ok ((record { name_idx = 1; field_type = 1; value = id - 1 }) ∷ [])
    unfolding record_triples check_triples check_triple triples_from
    triples_are =
        let p : ℕ = 96 + 16 * (id - 1) in
        let x = block_word (id - 1) (omega arith) in
        let two : p + 4 + 4 ≡ p + 8 = omega arith in
        let three : p + 4 + 8 ≡ p + 12 = omega arith in
        ap (record_triples b w) record_is
        ∙ simp (block_checked, one_property, start_is, two, three, x 1 (omega arith), x 2 (omega arith), x 3 (omega arith))

    pub built_properties : object_properties (file_wrapper n) id ≡ ok ((record { name_index = 1; field_type = 1; value = id - 1; name_replaced = 0; value_replaced = 0 }) ∷ [])
    unfolding object_properties record_properties
    built_properties = rw (built_opens, object_checked, triples_are, names_sound.0)

    pub built_find : find_property (file_wrapper n) id any_name ≡ ok (Some 0)
    unfolding find_property position
    built_find = rw (built_opens, object_checked, triples_are, stored.0, same_refl any_name)
