-- Counting the replacement characters of the names in rows: the walk of the name heap, and the rows that are gone over.
-- Assumes nothing.
use mathlib.Core.Path.{◌≡◌, refl, sym, ap, ap₂, ◌∙◌, subst, fun_ext}
use mathlib.Core.Bool.{Bool, true, false, cond, not}
use mathlib.Core.List.{List, [], ◌∷◌, map}
use Prim.Native.Nat.{ℕ, ◌+◌, ◌≤◌, ◌<◌}
use native.Mathlib.Omega.{arith}
use borrow.Author.Tests.{ne_eqb, not-false, lt-ltb, le-leb, lt-leb, leb-true, ltb-true, ltb-false}
use lib.Dec.{eqb, leb, ltb}
use lib.ListN.{length, get_or, take, set, length-map}
use lib.Seq.{slice}
use Rattle.std.specs.Prelude.{Ok, Err, Result as Reply}
use Rattle.std.specs.Result.{is_ok}
use Rattle.std.proofs.lemmas.List.{get_or-map}
use Rattle.text.specs.Replies.{error_place}
use Rattle.text.specs.Result.{ok}
use Rattle.text.specs.Utf8.{parts_from, first_ill_formed}
use Rattle.text.specs.declared.utf8.LossySize.{LossySize}
use Rattle.text.specs.declared.utf8.Utf8Error.{Utf8Error}
use Rattle.text.proofs.ResultLaws.{check_passed, check_is, seq_passed}
use Rattle.text.proofs.TestLaws.{either}
use Rattle.text.proofs.utf8.Lossy.{valid_scalars}
use Rattle.reader.specs.Names.{heap_of, shown_bytes}
use Rattle.reader.specs.Objects.{check_triple, check_triples, row_of, replaced_of}
use Rattle.reader.specs.Stages.Chunks.{ToNames, value_in, Looks, FillsTable}
use Rattle.reader.specs.Stages.Names.{FirstPiece, IsSize}
use Rattle.reader.specs.Stages.Replacements.{no_count, count_below, recounted, SoundNames, CountsRows}
use Rattle.reader.specs.declared.chunks.NameWalk.{NameWalk}
use Rattle.reader.specs.declared.file_wrapper.FileWrapper.{FileWrapper}
use Rattle.reader.specs.declared.file_wrapper.Metadata.{Metadata}
use Rattle.reader.specs.declared.properties.PropertyRow.{PropertyRow}
use Rattle.reader.specs.declared.records.Triple.{Triple}
use Rattle.reader.proofs.chunks.Laws.{in_chunk, has_piece}
use Rattle.reader.proofs.FrontLaws.{Fronts, front_next, front_turn, front_all}
use Rattle.reader.proofs.names.Pieces.{heap_begins, stand_inside, stand_empty, stand_name, stand_next}
use Rattle.reader.proofs.names.Sound.{empty_sound, name_sound}

-- ---- rows by the counts of their names

-- two counts that agree on the declared names give checked triples the same rows
rows_same : (w : FileWrapper) (f g : ℕ → ℕ) → ((i : ℕ) → i ≤ w.names → f i ≡ g i) → (ts : List Triple) → check_triples w ts ≡ ok tt
    → map (row_of f) ts ≡ map (row_of g) ts
unfolding check_triples check_triple
rows_same w f g h [] e = refl
rows_same w f g h (t ∷ ts) e =
    let p = seq_passed (check_triple w t) (check_triples w ts) e in
    ap₂ ◌∷◌ (row t p.1.0) (rows_same w f g h ts p.1.1)
  where
    row : (t : Triple) {u : Unit {0}} → check_triple w t ≡ ok u → row_of f t ≡ row_of g t
    row t e =
        let p = check_passed 11 (leb t.name_idx w.names) t.name_idx _ e in
        let q = check_passed 12 (leb t.field_type 2) t.field_type _ p.1 in
        let n = h t.name_idx (leb-true t.name_idx w.names p.0) in
        either (eqb t.field_type 0)
        (λ z. let v = h t.value (leb-true t.value w.names (check_is 11 (leb t.value w.names) t.value (simp z at q.1))) in rw (n, z, v))
        (λ z. rw (n, z))

-- two counts that agree on every name
rows_all : (f g : ℕ → ℕ) → ((i : ℕ) → f i ≡ g i) → (ts : List Triple) → map (row_of f) ts ≡ map (row_of g) ts
rows_all f g h ts = ap (λ (c : ℕ → ℕ). map (row_of c) ts) (fun_ext h)

-- a row that is gone over, by whether its value is a name
module _ (counts : List ℕ) (first e : ℕ) (row : PropertyRow) {n : ℕ} (is : n ≡ value_in counts first e row.name_index row.name_replaced) where
  pub recounted_name : row.field_type ≡ 0 → {v : ℕ} → v ≡ value_in counts first e row.value row.value_replaced
      → record { name_index = row.name_index; field_type = row.field_type; value = row.value; name_replaced = n; value_replaced = v } ≡ recounted counts first e row
  unfolding recounted
  recounted_name t q = simp (t, is, q)

  pub recounted_number : (row.field_type ≡ 0 → ⊥)
      → record { name_index = row.name_index; field_type = row.field_type; value = row.value; name_replaced = n; value_replaced = row.value_replaced } ≡ recounted counts first e row
  unfolding recounted
  recounted_number t = simp (ne_eqb row.field_type 0 t, is)

-- the counts of the names from first up to e put into a row
recount_row : (counts : List ℕ) (first e : ℕ) (f : ℕ → ℕ) (t : Triple) → recounted counts first e (row_of f t) ≡ row_of (λ i. value_in counts first e i (f i)) t
unfolding recounted
recount_row counts first e f t = either (eqb t.field_type 0) (λ z. simp z) (λ z. simp z)

recount_all : (counts : List ℕ) (first e : ℕ) (f : ℕ → ℕ) (ts : List Triple)
    → map (recounted counts first e) (map (row_of f) ts) ≡ map (row_of (λ i. value_in counts first e i (f i))) ts
recount_all counts first e f [] = refl
recount_all counts first e f (t ∷ ts) = ap₂ ◌∷◌ (recount_row counts first e f t) (recount_all counts first e f ts)

-- ---- the count of one name

module _ {m : Metadata} {x start : ℕ} (n : ToNames m x (x + 1) start) where
  abbrev told : List ℕ → ℕ
  told name = (shown_bytes name).replaced

  pub counted_empty : x ≡ 0 → Looks m 0 told x (record { value = 0; any = false; next = start })
  counted_empty z = record { is = rw z (sym (empty_sound m.blob.now (get_or m.w.offsets 0 0))); none = λ e. refl; heap = stand_empty n.heap z }

  module _ (some : x ≡ 0 → ⊥) where
    pub count_inside : start ≤ get_or m.w.offsets 0 0
    count_inside = stand_inside n.heap some (has_piece n)

    pub counted_name : {rest : List ℕ} → rest ≡ slice start (get_or m.w.offsets 0 0) m.blob.now → {e : ℕ} → FirstPiece rest e → {s : LossySize} → IsSize (take e rest) s
        → Looks m 0 told x (record { value = s.replaced; any = ltb 0 s.replaced; next = start + e + 1 })
    counted_name r {e} f {s} i =
        let l : get_or m.w.offsets 0 0 ≤ length m.blob.now = omega (arith, m.opens) in
        record {
          is = i.replaced ∙ ap told (sym f.is ∙ stand_name n.heap some (has_piece n) r);
          none = λ z. omega (arith, ltb-false 0 s.replaced z);
          heap = stand_next n.heap some (has_piece n) r l f;
        }

-- ---- the rows, one after another

abbrev no_row : PropertyRow
no_row = record { name_index = 0; field_type = 0; value = 0; name_replaced = 0; value_replaced = 0 }

module _ (f : PropertyRow → PropertyRow) {rows₀ rows : List PropertyRow} {i : ℕ} (m : Fronts (map f rows₀) rows₀ i rows) where
  pub mapping_turn : i < length rows₀ → {r : PropertyRow} → r ≡ f (get_or rows i no_row) → Fronts (map f rows₀) rows₀ (i + 1) (set rows i r)
  mapping_turn h {r} e =
      let l : i < length (map f rows₀) = omega (arith, length-map rows₀ f) in
      front_turn m l h no_row (e ∙ ap f (front_next m l h no_row) ∙ sym (get_or-map f rows₀ i no_row no_row h))

  pub mapping_last : (any : Bool) → not any ≡ false → i ≡ length rows₀ → rows ≡ cond any (map f rows₀) rows₀
  mapping_last any t z = rw (not-false any t) (front_all m z (length-map rows₀ f) refl)

-- ---- a chunk of names

module _ {m : Metadata} {first e : ℕ} {counts : List ℕ} {any : Bool} {next : ℕ} (k : FillsTable m 0 (λ name. (shown_bytes name).replaced) first e counts any next) where
  counts_next : (i : ℕ) → value_in counts first e i (count_below m first i) ≡ count_below m e i
  unfolding count_below
  counts_next i =
      rw (in_chunk k i (count_below m first i))
      (either (ltb i first)
      (λ t. simp (t, lt-leb first i (ltb-true i first t), lt-ltb i e (omega (arith, ltb-true i first t, k.more))))
      (λ t. let l = le-leb first i (ltb-false i first t) in either (ltb i e) (λ u. simp (t, u, l)) (λ u. simp (t, u, l))))

  counts_kept : any ≡ false → (i : ℕ) → count_below m first i ≡ count_below m e i
  unfolding count_below
  counts_kept z i =
      either (ltb i first)
      (λ t. simp (t, lt-ltb i e (omega (arith, ltb-true i first t, k.more))))
      (λ t. either (ltb i e) (λ u. simp (t, u) (sym (k.is.none z i (ltb-false i first t) (ltb-true i e u)))) (λ u. simp (t, u)))

  -- what rows that had the counts of the names before the chunk are gone over to
  chunk_counted : (ts : List Triple) {rows : List PropertyRow} → rows ≡ map (row_of (count_below m first)) ts
      → cond any (map (recounted counts first e) rows) rows ≡ map (row_of (count_below m e)) ts
  chunk_counted ts {rows} q =
      let f : ℕ → ℕ = count_below m first in
      either any
      (λ t. simp (t, q) (recount_all counts first e f ts ∙ rows_all (λ i. value_in counts first e i (f i)) (count_below m e) counts_next ts))
      (λ t. simp (t, q) (rows_all f (count_below m e) (counts_kept t) ts))

-- ---- a sound heap

module _ (m : Metadata) where
  pub sound_none : m.w.names ≡ 0 → SoundNames m true
  sound_none z i h =
      let y : i ≡ 0 = omega arith in
      rw y (empty_sound m.blob.now (get_or m.w.offsets 0 0))

  module _ (some : m.w.names ≡ 0 → ⊥) where
    pub sound_begins : 40 ≤ get_or m.w.offsets 0 0
    sound_begins = heap_begins m.blob.now (omega (arith, m.opens.names))

    module _ {heap : List ℕ} (r : heap ≡ heap_of m.blob.now (get_or m.w.offsets 0 0)) where
      whole : (x : Reply (Unit {0}) Utf8Error) → error_place x ≡ first_ill_formed (parts_from heap 0) → SoundNames m (is_ok x)
      whole (Ok u) e = λ i h. name_sound m.blob.now (get_or m.w.offsets 0 0) (valid_scalars (heap_of m.blob.now (get_or m.w.offsets 0 0)) {A = Unit {0}} {x = Ok u} (rw r at e) {a = u} refl) i
      whole (Err f) e = tt

      pub sound_whole : (x : Reply (Unit {0}) Utf8Error) → error_place x ≡ first_ill_formed (parts_from heap 0) → {s : Bool} → s ≡ is_ok x → SoundNames m s
      sound_whole x e {s} g = rw g (whole x e)

-- ---- all rows

-- rows of no counts have those of the names below the next one
pub record Counting (m : Metadata) (rows₀ rows : List PropertyRow) (k : NameWalk) : Type 0 where
  pub same : k.metadata ≡ m
  pub is : (ts : List Triple) → rows₀ ≡ map (row_of no_count) ts → rows ≡ map (row_of (count_below m k.name)) ts

module _ {m : Metadata} {rows₀ : List PropertyRow} where
  pub rows_sound : {r : Bool} → r ≡ true → SoundNames m r → CountsRows m rows₀ rows₀
  rows_sound g s = record { is = λ ts c q. q ∙ rows_same m.w no_count (replaced_of m.blob.now m.w) (λ i h. sym (subst (SoundNames m) g s i h)) ts c }

  -- no name has been looked at, or the empty one alone
  pub counting_start : {k : NameWalk} → k.metadata ≡ m → k.name ≤ 1 → Counting m rows₀ rows₀ k
  unfolding count_below
  counting_start {k} e z = record { same = e; is = λ ts q. q ∙ rows_all no_count (count_below m k.name) none ts }
    where
      none : (i : ℕ) → no_count i ≡ count_below m k.name i
      none i =
          either (ltb i k.name)
          (λ t. let y : i ≡ 0 = omega (arith, ltb-true i k.name t) in simp t (rw y (sym (empty_sound m.blob.now (get_or m.w.offsets 0 0)))))
          (λ t. simp t)

  module _ {rows : List PropertyRow} {k : NameWalk} (c : Counting m rows₀ rows k) where
    pub counting_turn : {k' : NameWalk} → k'.metadata ≡ k.metadata → {first e : ℕ} → first ≡ k.name → e ≡ k'.name
        → {counts : List ℕ} {any : Bool} → FillsTable k.metadata 0 (λ name. (shown_bytes name).replaced) k.name k'.name counts any k'.start
        → {rows' : List PropertyRow} → rows' ≡ cond any (map (recounted counts first e) rows) rows → Counting m rows₀ rows' k'
    counting_turn {k'} s a b {counts} {any} fills {rows'} was =
        let t : FillsTable m 0 (λ name. (shown_bytes name).replaced) k.name k'.name counts any k'.start = rw c.same at fills in
        let is : rows' ≡ cond any (map (recounted counts k.name k'.name) rows) rows = rw (a, b) at was in
        record { same = s ∙ c.same; is = λ ts q. is ∙ chunk_counted t ts (c.is ts q) }

    pub counting_last : m.w.names < k.name → CountsRows m rows₀ rows
    unfolding count_below
    counting_last h = record { is = λ ts e q. c.is ts q ∙ rows_same m.w (count_below m k.name) (replaced_of m.blob.now m.w) all ts e }
      where
        all : (i : ℕ) → i ≤ m.w.names → count_below m k.name i ≡ replaced_of m.blob.now m.w i
        all i l = simp (lt-ltb i k.name (omega arith))
