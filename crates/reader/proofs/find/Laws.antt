-- Finding a property by its name: the first triple for which a test holds, and the walk of the name heap that finds it.
-- Assumes nothing.
use mathlib.Core.Path.{◌≡◌, refl, sym, ap, ◌∙◌, fun_ext}
use mathlib.Core.Bool.{Bool, true, false, cond, ◌||◌}
use mathlib.Core.List.{List, [], ◌∷◌}
use Rattle.std.specs.Option.{unwrap_or}
use Rattle.std.specs.Bool.{then_some}
use Rattle.std.specs.Prelude.{Option, Some, None, MatchOption}
use Prim.Native.Nat.{ℕ, zero, suc, ◌+◌, ◌-◌, ◌*◌, ◌≤◌, ◌<◌}
use native.Mathlib.Omega.{arith}
use borrow.Author.Tests.{lt-ltb, le-ltb, le-leb, lt-leb, leb-true, ltb-true, ltb-false}
use lib.Dec.{eqb, leb, ltb}
use lib.ListN.{length, take, get_or}
use lib.Seq.{slice}
use Rattle.text.specs.Buffer.{same}
use Rattle.text.specs.Result.{ok}
use Rattle.text.proofs.ResultLaws.{check_passed, seq_passed}
use Rattle.text.proofs.TestLaws.{either, equal_or}
use Rattle.reader.specs.Stages.Names.{ComparesPiece}
use Rattle.reader.specs.Objects.{triples_from, check_triple, check_triples, position, is_stored_as}
use Rattle.reader.specs.Stages.Properties.{named_triples}
use Rattle.reader.specs.Stages.Chunks.{is_in, value_in, ToNames, Looks, FillsTable}
use Rattle.reader.specs.Stages.Find.{first_index, first_of, stored_in}
use Rattle.reader.specs.Queries.{own_bytes}
use Rattle.reader.specs.Wire.{triple_at}
use Rattle.reader.specs.declared.chunks.NameWalk.{NameWalk}
use Rattle.reader.specs.declared.file_wrapper.Metadata.{Metadata}
use Rattle.reader.specs.declared.names.Compared.{Compared}
use Rattle.reader.specs.declared.triples.Triples.{Triples}
use Rattle.reader.specs.declared.records.Triple.{Triple}
use Rattle.reader.proofs.properties.Laws.{length_triples}
use Rattle.reader.proofs.names.Comparison.{unnamed_equal, piece_equal}
use Rattle.reader.proofs.names.Pieces.{stand_inside, stand_empty, stand_next}
use Rattle.reader.proofs.chunks.Laws.{in_range, in_chunk, has_piece}

-- ---- the first element for which a test holds

module _ {A : Type 0} (p : A → Bool) where
  pub first_le : (xs : List A) → first_index p xs ≤ length xs
  unfolding first_index
  first_le [] = omega arith
  first_le (x ∷ xs) = either (p x) (λ e. simp e (omega arith)) (λ e. simp e (omega (arith, first_le xs)))

  pub position_none : (xs : List A) → first_index p xs ≡ length xs → position p xs ≡ None
  unfolding first_index position
  position_none [] h = refl
  position_none (x ∷ xs) h =
      either (p x) (λ e. absurd (omega (arith, simp e at h))) (λ e. simp (e, position_none xs (omega (arith, simp e at h))))

  pub position_some : (xs : List A) → (first_index p xs ≡ length xs → ⊥) → position p xs ≡ Some (first_index p xs)
  unfolding first_index position
  position_some [] h = absurd (h refl)
  position_some (x ∷ xs) h =
      either (p x) (λ e. simp e) (λ e. simp (e, position_some xs (λ z. h (simp e (ap suc z)))))

  -- what a search leads to, or else the first
  pub position_within : (xs : List A) → 0 < length xs → unwrap_or (position p xs) 0 < length xs
  position_within xs h =
      equal_or (first_index p xs) (length xs)
      (λ z. rw (position_none xs z) h)
      (λ z. rw (position_some xs z) (omega (arith, z, first_le xs)))

  first_none : ((x : A) → p x ≡ false) → (xs : List A) → first_index p xs ≡ length xs
  unfolding first_index
  first_none h [] = refl
  first_none h (x ∷ xs) = simp (h x, first_none h xs)

  -- the first with p or q comes before the first with p, and there it is the first with q
  first_or : (q r : A → Bool) → ((x : A) → r x ≡ (p x || q x)) → (xs : List A) → first_index r xs ≡ first_index q (take (first_index p xs) xs)
  unfolding first_index
  first_or q r h [] = refl
  first_or q r h (x ∷ xs) = rw (h x) (either (p x) (λ e. simp e) (λ e. simp (e, first_or q r h xs)))

-- ---- triples

take_triples : (b : List ℕ) (i m n : ℕ) → m ≤ n → take m (triples_from b i n) ≡ triples_from b i m
unfolding triples_from
take_triples b i zero n h = refl
take_triples b i (suc m) zero h = absurd (omega arith)
take_triples b i (suc m) (suc n) h = ap (λ (ts : List Triple). triple_at b i ∷ ts) (take_triples b (i + 12) m n (omega arith))

module _ (p : ℕ → Bool) (ts : Triples) where
  of_none : ((x : ℕ) → p x ≡ false) → (n : ℕ) → n ≡ first_of p ts n
  unfolding first_of
  of_none h n = sym (first_none (λ t. p t.name_idx) (λ t. h t.name_idx) (triples_from ts.metadata.blob.now ts.at n) ∙ length_triples ts.metadata.blob.now ts.at n)

  of_le : (n : ℕ) → first_of p ts n ≤ n
  unfolding first_of
  of_le n = omega (arith, first_le (λ t. p t.name_idx) (triples_from ts.metadata.blob.now ts.at n), length_triples ts.metadata.blob.now ts.at n)

  of_or : (q r : ℕ → Bool) → ((x : ℕ) → r x ≡ (p x || q x)) → (n : ℕ) → first_of r ts n ≡ first_of q ts (first_of p ts n)
  unfolding first_of
  of_or q r h n =
      first_or (λ t. p t.name_idx) (λ t. q t.name_idx) (λ t. r t.name_idx) (λ t. h t.name_idx) (triples_from ts.metadata.blob.now ts.at n)
      ∙ ap (first_index (λ t. q t.name_idx)) (take_triples ts.metadata.blob.now ts.at (first_of p ts n) n (of_le n))

-- none of the first k triples passes the test
record Passing (p : ℕ → Bool) (ts : Triples) (n k : ℕ) : Type 0 where
  pub rest : first_of p ts n ≡ k + first_index (λ (t : Triple). p t.name_idx) (triples_from ts.metadata.blob.now (ts.at + 12 * k) (n - k))

module _ {p : ℕ → Bool} {ts : Triples} {n k : ℕ} (s : Passing p ts n k) {t : Triple} {v : Bool} where
  pass_turn : k < n → t ≡ triple_at ts.metadata.blob.now (ts.at + 12 * k) → v ≡ p t.name_idx → v ≡ false → Passing p ts n (k + 1)
  unfolding first_index triples_from
  pass_turn h r e y =
      let m : n - k ≡ suc (n - (k + 1)) = omega arith in
      let a : ts.at + 12 * (k + 1) ≡ ts.at + 12 * k + 12 = omega arith in
      let z : p (triple_at ts.metadata.blob.now (ts.at + 12 * k)).name_idx ≡ false = rw r at (sym e ∙ y) in
      let f : first_of p ts n ≡ k + suc (first_index (λ (t : Triple). p t.name_idx) (triples_from ts.metadata.blob.now (ts.at + 12 * k + 12) (n - (k + 1)))) = simp (m, z) at s.rest in
      record { rest = rw a (omega (arith, f)) }

-- no triple below i passes the test
passed_to : {p : ℕ → Bool} {ts : Triples} {n : ℕ} (i : ℕ) → i ≤ n → ((k : ℕ) → k < i → p (triple_at ts.metadata.blob.now (ts.at + 12 * k)).name_idx ≡ false)
    → Passing p ts n i
unfolding first_of
passed_to {p} {ts} {n} zero h none =
    let z : ts.at + 12 * 0 ≡ ts.at = omega arith in
    let y : n - 0 ≡ n = omega arith in
    record { rest = rw (z, y) (omega arith) }
passed_to {p} {ts} {n} (suc i) h none =
    let z : i + 1 ≡ suc i = omega arith in
    rw z at (pass_turn (passed_to {p = p} {ts = ts} {n = n} i (omega arith) (λ k l. none k (omega arith))) {t = triple_at ts.metadata.blob.now (ts.at + 12 * i)} (omega arith) refl refl (none i (omega arith)))

-- what `find` over the indices says
pub found_first : (p : ℕ → Bool) (ts : Triples) (n : ℕ) (r : Option ℕ)
    → MatchOption r ((k : ℕ) → 0 ≤ k → k < n → p (triple_at ts.metadata.blob.now (ts.at + 12 * k)).name_idx ≡ false)
    (λ i. (0 ≤ i) × (i < n) × (p (triple_at ts.metadata.blob.now (ts.at + 12 * i)).name_idx ≡ true)
    × ((k : ℕ) → 0 ≤ k → k < i → p (triple_at ts.metadata.blob.now (ts.at + 12 * k)).name_idx ≡ false))
    → unwrap_or r n ≡ first_of p ts n
unfolding first_index triples_from
found_first p ts n None h =
    let s = passed_to {p = p} {ts = ts} {n = n} n (omega arith) (λ k l. h k (omega arith) l) in
    let z : n - n ≡ 0 = omega arith in
    omega (arith, rw z at s.rest)
found_first p ts n (Some i) h =
    let s = passed_to {p = p} {ts = ts} {n = n} i (omega (arith, h.1)) (λ k l. h.3 k (omega arith) l) in
    let m : n - i ≡ suc (n - (i + 1)) = omega (arith, h.1) in
    omega (arith, simp (m, h.2) at s.rest)

-- ---- looking at a name

module _ {m : Metadata} {x start : ℕ} (n : ToNames m x (x + 1) start) where
  pub look_inside : (x ≡ 0 → ⊥) → start ≤ get_or m.w.offsets 0 0
  look_inside z = stand_inside n.heap z (has_piece n)

  module _ (wanted : List ℕ) where
    abbrev told : List ℕ → Bool
    told name = same name wanted

    pub look_empty : x ≡ 0 → Looks m false told x (record { value = eqb (length wanted) 0; any = eqb (length wanted) 0; next = start })
    look_empty z = record { is = unnamed_equal m.blob.now (get_or m.w.offsets 0 0) wanted z; none = λ e. e; heap = stand_empty n.heap z }

    pub look_piece : (x ≡ 0 → ⊥) → {rest : List ℕ} → rest ≡ slice start (get_or m.w.offsets 0 0) m.blob.now → {c : Compared} → ComparesPiece rest wanted c
        → Looks m false told x (record { value = c.equal; any = c.equal; next = start + c.end + 1 })
    look_piece z r k =
        let l : get_or m.w.offsets 0 0 ≤ length m.blob.now = omega (arith, m.opens) in
        record {
          is = piece_equal m.blob.now (get_or m.w.offsets 0 0) wanted z (has_piece n) n.heap r k;
          none = λ e. e;
          heap = stand_next n.heap z (has_piece n) r l k.piece;
        }

-- ---- a chunk of names

or_false : (t : Bool) → t ≡ (t || false)
or_false true = refl
or_false false = refl

in_none : {first e : ℕ} → e ≤ first → (y : ℕ) → is_in first e y ≡ false
in_none {first} {e} h y = either (leb first y) (λ t. simp (t, le-ltb y e (omega (arith, leb-true first y t)))) (λ t. simp t)

module _ (ts : Triples) (wanted : List ℕ) {first e : ℕ} {flags : List Bool} {any : Bool} {next : ℕ}
    (k : FillsTable ts.metadata false (λ name. same name wanted) first e flags any next) where
  -- the flags are those of the names that are stored as wanted
  flags_are : (x : ℕ) → value_in flags first e x false ≡ stored_in ts.metadata wanted first e x
  unfolding stored_in
  flags_are x = rw (in_chunk k x false) (either (is_in first e x) (λ t. simp t) (λ t. simp t))

  flags_none : any ≡ false → (x : ℕ) → stored_in ts.metadata wanted first e x ≡ false
  unfolding stored_in
  flags_none z x = in_range first e x (λ h l t. simp (t, k.is.none z x h l)) (λ t. simp t)

  -- the triples are searched only where a name of the chunk is wanted
  advances : (n : ℕ) → cond any (first_of (λ x. value_in flags first e x false) ts n) n ≡ first_of (stored_in ts.metadata wanted first e) ts n
  advances n =
      either any
      (λ t. simp t (ap (λ (p : ℕ → Bool). first_of p ts n) (fun_ext flags_are)))
      (λ t. simp t (of_none (stored_in ts.metadata wanted first e) ts (flags_none t) n))

-- ---- the walk of the name heap

-- best is the first triple with a wanted name of those that have been looked at
pub record Walking (ts : Triples) (wanted : List ℕ) (k : NameWalk) (best : ℕ) : Type 0 where
  pub of : k.metadata ≡ ts.metadata
  pub order : best ≤ ts.count
  pub is : best ≡ first_of (stored_in ts.metadata wanted 0 k.name) ts ts.count

module _ (m : Metadata) (wanted : List ℕ) where
  -- a name index that passed its check is one of the declared
  stored_all : (ts : List Triple) → check_triples m.w ts ≡ ok tt
      → first_index (λ t. stored_in m wanted 0 (m.w.names + 1) t.name_idx) ts ≡ first_index (is_stored_as m.blob.now m.w wanted) ts
  unfolding stored_in first_index check_triples check_triple
  stored_all [] e = refl
  stored_all (t ∷ ts) e =
      let p = seq_passed (check_triple m.w t) (check_triples m.w ts) e in
      let q = check_passed 11 (leb t.name_idx m.w.names) t.name_idx _ p.1.0 in
      let l : t.name_idx < m.w.names + 1 = omega (arith, leb-true t.name_idx m.w.names q.0) in
      simp (le-leb 0 t.name_idx (omega arith), lt-ltb t.name_idx (m.w.names + 1) l, stored_all ts p.1.1)

  stored_split : (k e : ℕ) → k ≤ e → (x : ℕ) → stored_in m wanted 0 e x ≡ (stored_in m wanted 0 k x || stored_in m wanted k e x)
  unfolding stored_in
  stored_split k e h x =
      either (ltb x k)
      (λ t. let l = ltb-true x k t in simp (t, le-leb 0 x (omega arith), lt-ltb x e (omega arith), lt-leb k x l) (or_false (same (own_bytes m.blob.now m.w x) wanted)))
      (λ t. simp (t, le-leb 0 x (omega arith), le-leb k x (ltb-false x k t)))

module _ (ts : Triples) (wanted : List ℕ) {k : NameWalk} where
  pub walk_start : k.metadata ≡ ts.metadata → k.name ≡ 0 → Walking ts wanted k ts.count
  unfolding stored_in
  walk_start e z = record {
    of = e;
    order = omega arith;
    is = of_none (stored_in ts.metadata wanted 0 k.name) ts (λ x. simp (in_none {first = 0} {e = k.name} (omega arith) x)) ts.count;
  }

  module _ {best : ℕ} (s : Walking ts wanted k best) where
    pub walk_turn : {k' : NameWalk} → k'.metadata ≡ k.metadata → {first e : ℕ} → first ≡ k.name → e ≡ k'.name
        → {flags : List Bool} {any : Bool} → FillsTable k.metadata false (λ name. same name wanted) k.name k'.name flags any k'.start
        → {r : ℕ} → r ≡ cond any (first_of (λ x. value_in flags first e x false) ts best) best → Walking ts wanted k' r
    walk_turn {k'} m a b {flags} {any} fills {r} was =
        let t : FillsTable ts.metadata false (λ name. same name wanted) k.name k'.name flags any k'.start = rw s.of at fills in
        let now : r ≡ cond any (first_of (λ x. value_in flags k.name k'.name x false) ts best) best = rw (a, b) at was in
        let o = of_or (stored_in ts.metadata wanted 0 k.name) ts (stored_in ts.metadata wanted k.name k'.name) (stored_in ts.metadata wanted 0 k'.name)
        (stored_split ts.metadata wanted k.name k'.name (omega (arith, t.more))) ts.count in
        let z : r ≡ first_of (stored_in ts.metadata wanted 0 k'.name) ts ts.count =
        now ∙ advances ts wanted t best ∙ ap (first_of (stored_in ts.metadata wanted k.name k'.name) ts) s.is ∙ sym o in
        record { of = m ∙ s.of; order = omega (arith, z, of_le (stored_in ts.metadata wanted 0 k'.name) ts ts.count); is = z }

    -- past the last name, best is the position; the number of triples is told for none
    pub walk_last : ts.metadata.w.names < k.name
        → then_some (ltb best ts.count) best ≡ position (is_stored_as ts.metadata.blob.now ts.metadata.w wanted) (named_triples ts)
    unfolding first_of
    walk_last h =
        let few : k.name ≤ ts.metadata.w.names + 1 = rw s.of at k.to_names.few in
        let z : k.name ≡ ts.metadata.w.names + 1 = omega (arith, few) in
        let p : Triple → Bool = is_stored_as ts.metadata.blob.now ts.metadata.w wanted in
        let last : best ≡ first_index p (named_triples ts) = rw z at s.is ∙ stored_all ts.metadata wanted (named_triples ts) ts.passed.checks in
        let n : length (named_triples ts) ≡ ts.count = length_triples ts.metadata.blob.now ts.at ts.count in
        equal_or best ts.count
        (λ q. simp (le-ltb best ts.count (omega (arith, q))) (sym (position_none p (named_triples ts) (sym last ∙ q ∙ sym n))))
        (λ q. simp (lt-ltb best ts.count (omega (arith, s.order, q)))
        (sym (position_some p (named_triples ts) (λ x. q (last ∙ x ∙ n)) ∙ ap Some (sym last))))
