-- Finding by the file's own bytes (document 02, P6): names as they are stored and as they are shown, what a search finds, and that sound
-- files are searched as before.
-- Assumes nothing.
use mathlib.Core.Path.{◌≡◌, refl, sym, ap, ◌∙◌}
use mathlib.Core.Bool.{Bool, true, false}
use mathlib.Core.List.{List, [], ◌∷◌, ◌++◌}
use Rattle.std.specs.Prelude.{Option, Some, None}
use Rattle.std.specs.Option.{option_map}
use Prim.Native.Nat.{ℕ, suc, ◌≤◌}
use native.Mathlib.Omega.{arith}
use borrow.Author.Tests.{leb-true}
use lib.Dec.{eqb, leb}
use lib.ListN.{length, get_or}
use Rattle.text.specs.Buffer.{same}
use Rattle.text.specs.Result.{Result, ok, error, map_result, ◌>>◌, ◌>>=◌}
use Rattle.text.specs.Unicode.{Below}
use Rattle.text.specs.Utf8.{scalars8}
use Rattle.text.proofs.AsciiLaws.{ascii_well_formed, ascii_without}
use Rattle.text.proofs.ResultLaws.{same_value, check_passed, seq_passed, bind_passed}
use Rattle.text.proofs.SameLaws.{same_refl, same_is, same_not, same_empty, same_lossy}
use Rattle.text.proofs.ScalarLaws.{Without}
use Rattle.text.proofs.TestLaws.{either}
use Rattle.text.proofs.Utf8Laws.{map_is, not_some, lossy_same}
use Rattle.reader.specs.Objects.{check_block, triples_of, check_triple, check_triples, record_triples, object_properties, record_properties, position, is_named, is_stored_as, find_property}
use Rattle.reader.specs.Opening.{opened}
use Rattle.reader.specs.Queries.{own_bytes, shown, object_record, check_object}
use Rattle.reader.specs.declared.file_wrapper.FileWrapper.{FileWrapper}
use Rattle.reader.specs.declared.records.ObjectRecord.{ObjectRecord}
use Rattle.reader.specs.declared.records.Triple.{Triple}
use Rattle.reader.proofs.ReplacementLaws.{map_bind, map_seq}
use Rattle.reader.proofs.names.Comparison.{unnamed_equal}

-- ---- names as they are stored and as they are shown

module _ (b : List ℕ) (w : FileWrapper) (i : ℕ) where
  -- a name, sound or damaged, is shown as a well-formed text without U+FFFD exactly where it is stored as it
  pub shown_where_stored : (t : List ℕ) {vs : List ℕ} → scalars8 t ≡ Some vs → Without 0xFFFD vs → same (shown b w i).text t ≡ same (own_bytes b w i) t
  shown_where_stored t e v = same_lossy (own_bytes b w i) t e v

  pub ascii_where_stored : (t : List ℕ) → Below 128 t → same (shown b w i).text t ≡ same (own_bytes b w i) t
  ascii_where_stored t h = shown_where_stored t (ascii_well_formed t h) (ascii_without t h)

  -- a sound name is shown as it is stored, so as any text
  pub sound_where_stored : {vs : List ℕ} → scalars8 (own_bytes b w i) ≡ Some vs → (t : List ℕ) → same (shown b w i).text t ≡ same (own_bytes b w i) t
  sound_where_stored e t = ap (λ (s : List ℕ). same s t) (lossy_same (own_bytes b w i) e)

-- ---- one property

module _ (b : List ℕ) (w : FileWrapper) (wanted : List ℕ) (t : Triple) where
  pub matched_is : is_stored_as b w wanted t ≡ true → own_bytes b w t.name_idx ≡ wanted
  matched_is e = same_is (own_bytes b w t.name_idx) wanted e

  -- any bytes match themselves, well-formed or not
  pub own_matched : own_bytes b w t.name_idx ≡ wanted → is_stored_as b w wanted t ≡ true
  own_matched e = ap (λ (s : List ℕ). same s wanted) e ∙ same_refl wanted

  -- "a name with ill-formed bytes matches no search text that is well-formed"
  pub damaged_unmatched : scalars8 (own_bytes b w t.name_idx) ≡ None → {vs : List ℕ} → scalars8 wanted ≡ Some vs → is_stored_as b w wanted t ≡ false
  damaged_unmatched d e = same_not (own_bytes b w t.name_idx) wanted (λ k. not_some (sym d ∙ ap scalars8 k ∙ e))

  -- "The empty name matches empty search text", and no other
  pub empty_matched : own_bytes b w t.name_idx ≡ [] → is_stored_as b w wanted t ≡ eqb (length wanted) 0
  empty_matched e = ap (λ (s : List ℕ). same s wanted) e ∙ sym (same_empty wanted)

  -- index 0 is the empty name
  pub unnamed_matched : t.name_idx ≡ 0 → is_stored_as b w wanted t ≡ eqb (length wanted) 0
  unnamed_matched z = sym (unnamed_equal b (get_or w.offsets 0 0) wanted z)

-- ---- the position of the first

-- a fact for each element
abbrev pub Each : {A : Type 0} → (A → Type 0) → List A → Type 0
Each P [] = Unit
Each P (x ∷ xs) = P x × Each P xs

-- element k passes the test, and none before it does
pub record First {A : Type 0} (p : A → Bool) (xs : List A) (k : ℕ) : Type 0 where
  pub before : List A
  pub element : A
  pub after : List A
  pub are : xs ≡ before ++ element ∷ after
  pub place : k ≡ length before
  pub passes : p element ≡ true
  pub none_before : Each (λ x. p x ≡ false) before

module _ {A : Type 0} (p : A → Bool) where
  first_later : (x : A) {xs : List A} {k : ℕ} → p x ≡ false → First p xs k → First p (x ∷ xs) (suc k)
  first_later x t f = record {
    before = x ∷ f.before;
    element = f.element;
    after = f.after;
    are = ap (λ (ys : List A). x ∷ ys) f.are;
    place = ap suc f.place;
    passes = f.passes;
    none_before = (t, f.none_before);
  }

  position_first : (xs : List A) {k : ℕ} → position p xs ≡ Some k → First p xs k
  unfolding position
  position_first [] e = not_some e
  position_first (x ∷ xs) {k} e =
      either (p x)
      (λ t. let z : Some 0 ≡ Some k = simp t at e in
      record { before = []; element = x; after = xs; are = refl; place = cc; passes = t; none_before = tt })
      (λ t. let o = map_is suc (position p xs) (simp t at e) in
      rw o.1.1 (first_later x t (position_first xs o.1.0)))

  position_nothing : (xs : List A) → position p xs ≡ None → Each (λ x. p x ≡ false) xs
  unfolding position
  position_nothing [] e = tt
  position_nothing (x ∷ xs) e =
      either (p x) (λ t. not_some (sym (simp t at e))) (λ t. (t, position_nothing xs (unmapped (position p xs) (simp t at e))))
    where
      unmapped : (m : Option ℕ) → option_map suc m ≡ None → m ≡ None
      unmapped None k = refl
      unmapped (Some y) k = not_some (sym k)

  position_within : (before : List A) (x : A) (after : List A) → p x ≡ true → (j : ℕ) × ((position p (before ++ x ∷ after) ≡ Some j) × (j ≤ length before))
  unfolding position
  position_within [] x after e = (0, (simp e, omega arith))
  position_within (y ∷ before) x after e =
      either (p y) (λ t. (0, (simp t, omega arith)))
      (λ t. let r = position_within before x after e in
      (suc r.0, (simp (t, r.1.0), omega (arith, r.1.1))))

-- ---- what a search finds

-- an object of an opened blob whose properties pass their checks
pub record HasProperties (b : List ℕ) (id : ℕ) (w : FileWrapper) (ts : List Triple) : Type 0 where
  pub opens : opened b ≡ ok w
  pub object : check_object w id ≡ ok tt
  pub triples : record_triples b w (object_record b w id) ≡ ok ts

-- a value left aside, so that its checks alone are left
abbrev dropped : {A : Type 0} → A → Unit {0}
dropped x = tt

module _ (b : List ℕ) (id : ℕ) (wanted : List ℕ) where
  -- every check of Properties is put, whatever matches: 1–7, 8, 10, then 11, 12, 11 for each triple
  pub find_checks : map_result dropped (find_property b id wanted) ≡ map_result dropped (object_properties b id)
  unfolding find_property object_properties record_properties
  find_checks =
      map_bind dropped (opened b) _ _
      (λ w. map_seq dropped (check_object w id) _ (map_bind dropped (record_triples b w (object_record b w id)) _ (λ ts. ok tt) (λ ts. refl)))
      ∙ sym (map_bind dropped (opened b) _ _
      (λ w. map_seq dropped (check_object w id) _ (map_bind dropped (record_triples b w (object_record b w id)) _ (λ ts. ok tt) (λ ts. refl))))

  -- where a search is accepted, the properties have passed
  pub find_passed : {m : Option ℕ} → find_property b id wanted ≡ ok m → (w : FileWrapper) × ((ts : List Triple) × HasProperties b id w ts)
  unfolding find_property
  find_passed e =
      let o = bind_passed (opened b) _ e in
      let c = seq_passed (check_object o.0 id) _ o.1.1 in
      let t = bind_passed (record_triples b o.0 (object_record b o.0 id)) _ c.1.1 in
      (o.0, (t.0, record { opens = o.1.0; object = c.1.0; triples = t.1.0 }))

  module _ {w : FileWrapper} {ts : List Triple} (h : HasProperties b id w ts) where
    find_is : find_property b id wanted ≡ ok (position (is_stored_as b w wanted) ts)
    unfolding find_property
    find_is = rw (h.opens, h.object, h.triples)

    -- "First match": its name is stored as wanted, and none before it is
    pub found_first : {k : ℕ} → find_property b id wanted ≡ ok (Some k) → First (is_stored_as b w wanted) ts k
    found_first e = position_first (is_stored_as b w wanted) ts (same_value (sym find_is ∙ e))

    -- "and none": no name is stored as wanted
    pub none_found : find_property b id wanted ≡ ok None → Each (λ t. is_stored_as b w wanted t ≡ false) ts
    none_found e = position_nothing (is_stored_as b w wanted) ts (same_value (sym find_is ∙ e))

    -- a name is found by its own bytes, well-formed or not: it, or one before it that is stored alike
    pub own_found : (before : List Triple) (t : Triple) (after : List Triple) → ts ≡ before ++ t ∷ after → own_bytes b w t.name_idx ≡ wanted
        → (j : ℕ) × ((find_property b id wanted ≡ ok (Some j)) × (j ≤ length before))
    own_found before t after are e =
        let r = position_within (is_stored_as b w wanted) before t after (own_matched b w wanted t e) in
        (r.0, (find_is ∙ ap (λ (xs : List Triple). ok (position (is_stored_as b w wanted) xs)) are ∙ ap ok r.1.0, r.1.1))

    -- well-formed text finds well-formed names alone
    pub found_sound : {k : ℕ} (e : find_property b id wanted ≡ ok (Some k)) {vs : List ℕ} → scalars8 wanted ≡ Some vs
        → scalars8 (own_bytes b w (found_first e).element.name_idx) ≡ Some vs
    found_sound e s = let f = found_first e in ap scalars8 (matched_is b w wanted f.element f.passes) ∙ s

-- ---- sound files are searched as before

-- finding as it was defined before, by the name as it is shown
pub base_find : List ℕ → ℕ → List ℕ → Result (Option ℕ)
base_find b id wanted = do
  w ← opened b
  check_object w id
  ts ← record_triples b w (object_record b w id)
  ok (position (is_named b w wanted) ts)

-- every declared name of an opened blob is well-formed
abbrev pub SoundNames : List ℕ → FileWrapper → Type 0
SoundNames b w = (i : ℕ) → i ≤ w.names → (vs : List ℕ) × (scalars8 (own_bytes b w i) ≡ Some vs)

bind_alike : {A B : Type 0} (m : Result A) (f g : A → Result B) → ((a : A) → m ≡ ok a → f a ≡ g a) → (m >>= f) ≡ (m >>= g)
bind_alike (ok a) f g h = h a refl
bind_alike (error e) f g h = refl

module _ (b : List ℕ) (w : FileWrapper) (sound : SoundNames b w) (wanted : List ℕ) where
  position_kept : (ts : List Triple) → check_triples w ts ≡ ok tt → position (is_stored_as b w wanted) ts ≡ position (is_named b w wanted) ts
  unfolding position check_triples check_triple
  position_kept [] e = refl
  position_kept (t ∷ ts) e =
      let p = seq_passed (check_triple w t) (check_triples w ts) e in
      let q = check_passed 11 (leb t.name_idx w.names) t.name_idx _ p.1.0 in
      let s = sound t.name_idx (leb-true t.name_idx w.names q.0) in
      rw (sym (sound_where_stored b w t.name_idx s.1 wanted), position_kept ts p.1.1)

  record_kept : (r : ObjectRecord) {ts : List Triple} → record_triples b w r ≡ ok ts → position (is_stored_as b w wanted) ts ≡ position (is_named b w wanted) ts
  unfolding record_triples
  record_kept r e =
      let p = seq_passed (check_block w r) (check_triples w (triples_of b w r) >> ok (triples_of b w r)) e in
      let q = seq_passed (check_triples w (triples_of b w r)) (ok (triples_of b w r)) p.1.1 in
      rw (← same_value q.1.1) (position_kept (triples_of b w r) q.1.0)

-- "A file whose names are all sound is searched as before."
pub sound_kept : (b : List ℕ) (id : ℕ) (wanted : List ℕ) → ((w : FileWrapper) → opened b ≡ ok w → SoundNames b w) → find_property b id wanted ≡ base_find b id wanted
unfolding find_property base_find
sound_kept b id wanted sound =
    bind_alike (opened b) _ _
    (λ w o. ap (λ (m : Result (Option ℕ)). check_object w id >> m)
    (bind_alike (record_triples b w (object_record b w id)) _ _ (λ ts r. ap ok (record_kept b w (sound w o) wanted (object_record b w id) r))))
