-- The outcomes of the queries for an object's properties, and the loops over its triples.
-- Assumes nothing.
use mathlib.Core.Path.{◌≡◌, refl, sym, ap, ◌∙◌, fun_ext}
use mathlib.Core.Bool.{false}
use mathlib.Core.List.{List, map}
use Prim.Native.Nat.{ℕ, zero, suc, ◌+◌, ◌-◌, ◌*◌, ◌^◌, ◌<◌, min}
use native.Mathlib.Omega.{arith}
use borrow.Author.Tests.{lt-leb}
use lib.Dec.{leb}
use lib.ListN.{length, get_or, set, length-map}
use Rattle.std.specs.Prelude.{Err}
use Rattle.std.proofs.lemmas.List.{get_or-map}
use Rattle.text.specs.Result.{Result, ok, error, ◌>>◌, ◌>>=◌}
use Rattle.text.specs.declared.error.Failure.{Failure}
use Rattle.text.specs.declared.error.MatError.TheVariants.{OutputTooShort}
use Rattle.reader.proofs.FrontLaws.{Fronts, front_turn, front_all}
use Rattle.text.proofs.ResultLaws.{bind_failed, seq_bind}
use Rattle.reader.specs.Objects.{triples_from, check_triple, check_triples, record_triples, row_of, replaced_of, record_properties, object_properties}
use Rattle.reader.specs.Stages.Properties.{named_triples, object_triples}
use Rattle.reader.specs.Stages.Replacements.{no_count}
use Rattle.reader.specs.Opening.{opened}
use Rattle.reader.specs.Queries.{object_record, check_object}
use Rattle.reader.specs.Replies.{WritesRows}
use Rattle.reader.specs.Wire.{triple_at}
use Rattle.reader.specs.declared.file_wrapper.FileWrapper.{FileWrapper}
use Rattle.reader.specs.declared.triples.Triples.{Triples}
use Rattle.reader.specs.declared.properties.PropertyRow.{PropertyRow}
use Rattle.reader.specs.declared.records.Triple.{Triple}

-- ---- the checks of all

-- the first i triples have passed
pub record Checking (b : List ℕ) (w : FileWrapper) (start n i : ℕ) : Type 0 where
  pub rest : check_triples w (triples_from b start n) ≡ check_triples w (triples_from b (start + 12 * i) (n - i))

pub checking_turn : {b : List ℕ} {w : FileWrapper} {start n i : ℕ} → Checking b w start n i → i < n → {t : Triple} → t ≡ triple_at b (start + 12 * i)
    → ok tt ≡ check_triple w t → Checking b w start n (i + 1)
unfolding triples_from check_triples
checking_turn {b} {w} {start} {n} {i} c h {t} is said =
    let k : n - i ≡ suc (n - (i + 1)) = omega arith in
    let a : start + 12 * (i + 1) ≡ start + 12 * i + 12 = omega arith in
    let y : check_triple w (triple_at b (start + 12 * i)) ≡ ok tt = rw is at (sym said) in
    record { rest = rw a (rw y at (rw k at c.rest)) }

-- ---- rows

pub length_triples : (b : List ℕ) (i n : ℕ) → length (triples_from b i n) ≡ n
unfolding triples_from
length_triples b i zero = refl
length_triples b i (suc n) = ap suc (length_triples b (i + 12) n)

pub triple_at_lem : (b : List ℕ) (i n k : ℕ) (t : Triple) → k < n → get_or (triples_from b i n) k t ≡ triple_at b (i + 12 * k)
unfolding triples_from
triple_at_lem b i zero k t h = absurd (omega arith)
triple_at_lem b i (suc n) zero t h =
    let z : i ≡ i + 12 * 0 = omega arith in
    ap (triple_at b) z
triple_at_lem b i (suc n) (suc k) t h =
    let z : i + 12 + 12 * k ≡ i + 12 * suc k = omega arith in
    triple_at_lem b (i + 12) n k t (omega arith) ∙ ap (triple_at b) z

abbrev pub rows_from : Triples → List PropertyRow
rows_from t = map (row_of no_count) (named_triples t)

module _ (t : Triples) where
  length_rows : length (rows_from t) ≡ t.count
  length_rows = length-map (named_triples t) (row_of no_count) ∙ length_triples t.metadata.blob.now t.at t.count

  module _ {i : ℕ} {rows₀ rows : List PropertyRow} (f : Fronts (rows_from t) rows₀ i rows) (room : length rows₀ ≡ t.count) where
    pub fill_turn : i < t.count → {k : Triple} → k ≡ triple_at t.metadata.blob.now (t.at + 12 * i)
        → {r : PropertyRow} → r ≡ row_of no_count k → Fronts (rows_from t) rows₀ (i + 1) (set rows i r)
    fill_turn h {k} e {r} q =
        let l : i < length (named_triples t) = omega (arith, length_triples t.metadata.blob.now t.at t.count) in
        let m : i < length (rows_from t) = omega (arith, length_rows) in
        front_turn f m (omega arith) r
        (q ∙ ap (row_of no_count) (e ∙ sym (triple_at_lem t.metadata.blob.now t.at t.count i k h)) ∙ sym (get_or-map (row_of no_count) (named_triples t) i k r l))

    pub fill_last : i ≡ t.count → rows ≡ rows_from t
    fill_last z = front_all f z length_rows room

-- ---- a query of an object's triples, and what it comes to with them

module _ (b : List ℕ) (id : ℕ) {A : Type 0} (of : FileWrapper → List Triple → Result A) where
  abbrev query : Result A
  query = opened b >>= λ w. check_object w id >> (record_triples b w (object_record b w id) >>= of w)

  abbrev stages : FileWrapper → Result (List Triple)
  stages w = check_object w id >> record_triples b w (object_record b w id)

  query_is : query ≡ (opened b >>= λ w. stages w >>= of w)
  query_is = ap (λ (f : FileWrapper → Result A). opened b >>= f) (fun_ext (λ w. seq_bind (check_object w id) (record_triples b w (object_record b w id)) (of w)))

  -- where reading the triples is refused, so is the query, by the same failure
  pub query_refused : {f : Failure} → error f ≡ object_triples b id → query ≡ error f
  unfolding object_triples
  query_refused e = query_is ∙ bind_failed (opened b) stages of (sym e)

  pub query_read : (t : Triples) → ok (named_triples t) ≡ object_triples b id → t.metadata.blob.now ≡ b → query ≡ of t.metadata.w (named_triples t)
  unfolding object_triples
  query_read t e p =
      let o : opened b ≡ ok t.metadata.w = rw p at t.metadata.opens.is in
      let s : stages t.metadata.w ≡ ok (named_triples t) = rw o at (sym e) in
      query_is ∙ rw (o, s)

-- ---- the public call

module _ (b : List ℕ) (id : ℕ) where
  abbrev counted_rows : FileWrapper → List Triple → Result (List PropertyRow)
  counted_rows w ts = ok (map (row_of (replaced_of b w)) ts)

  module _ (t : Triples) (e : ok (named_triples t) ≡ object_triples b id) (p : t.metadata.blob.now ≡ b) where
    abbrev rows_of : List PropertyRow
    rows_of = map (row_of (replaced_of b t.metadata.w)) (named_triples t)

    come : object_properties b id ≡ ok rows_of
    unfolding object_properties record_properties
    come = query_read b id counted_rows t e p

    size : length rows_of ≡ t.count
    size = length-map (named_triples t) (row_of (replaced_of b t.metadata.w)) ∙ length_triples t.metadata.blob.now t.at t.count

    pub rows_short : (rows : List PropertyRow) → length rows < t.count → WritesRows (object_properties b id) rows (Err (OutputTooShort t.count)) rows
    rows_short rows h =
        let u : leb (length rows_of) (length rows) ≡ false = lt-leb (length rows_of) (length rows) (omega (arith, size)) in
        let k : min (length rows_of) (2 ^ 64 - 1) ≡ t.count = omega (arith, size, t.passed.triples) in
        rw come (record { reply = simp (u, k); buffer = simp u })
