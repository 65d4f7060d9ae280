-- What the part of a label is, and the outcomes of `label_source` and `label`.
-- Assumes nothing.
use mathlib.Core.Path.{◌≡◌, refl, sym, ap, ap₂, ◌∙◌, subst}
use mathlib.Core.Bool.{false}
use mathlib.Core.List.{List, []}
use Rattle.std.specs.Borrow.{Bor}
use Rattle.std.specs.Prelude.{Some, None}
use Prim.Native.Nat.{ℕ, zero, suc, ◌+◌, ◌-◌, ◌≤◌}
use native.Mathlib.Omega.{arith}
use borrow.Author.Tests.{eq-eqb, ne_eqb, eqb-false, le-leb, leb-true, ltb-true, ltb-false}
use lib.Dec.{eqb, leb, ltb}
use lib.ListN.{length, get_or, take, drop}
use lib.Seq.{slice, length-slice, take-take, drop-drop}
use Rattle.text.specs.Replies.{terminated_length}
use Rattle.text.specs.Result.{ok, error}
use Rattle.text.specs.Utf8.{scalars8, before_zero}
use Rattle.text.proofs.utf8.Lossy.{none_replaced, part_replaced, sound_replaced}
use Rattle.text.proofs.ResultLaws.{same_value, or_error_passed, check_passed, seq_passed, bind_passed}
use Rattle.text.proofs.utf8.Terminated.{terminated_is, terminated_not}
use Rattle.text.proofs.TestLaws.{clash, either}
use Rattle.text.proofs.Utf8Laws.{lossy_same, scalars8_empty}
use Rattle.reader.specs.Labels.{IsPart, IsLabel, placeholder_part, name_part, check_well_formed, label_of, buffer_of}
use Rattle.reader.specs.Names.{pieces, heap_of, name_bytes, length_with_zeros, name_start, sound_text}
use Rattle.reader.specs.Stages.Names.{HasName}
use Rattle.reader.specs.Opening.{opened}
use Rattle.reader.specs.Queries.{check_name, own_bytes, shown, name_text}
use Rattle.reader.specs.declared.file_wrapper.FileWrapper.{FileWrapper}
use Rattle.reader.specs.declared.labels.Part.{Part}
use Rattle.reader.specs.declared.labels.Source.{Source}
use Rattle.reader.specs.declared.labels.Source.TheVariants as source
use Rattle.reader.proofs.NameLaws.{opens, parsed, part_slice, has_name, declared}
use Rattle.reader.proofs.names.Pieces.{named_heap, named_piece, lengths_pieces, lengths_at, lengths_less, piece_at, starts_place, rest_name}

-- ---- outcomes of the definition

module _ (b placeholder : List ℕ) (i : ℕ) {w : FileWrapper} (o : opened b ≡ ok w) where
  module _ (h : i ≤ w.names) where
    well_formed : {vs : List ℕ} → scalars8 (own_bytes b w i) ≡ Some vs → label_of b placeholder i ≡ ok (name_part b placeholder w i)
    unfolding label_of
    well_formed e = rw o (simp (le-leb i w.names h, e))

    ill_formed_lem : scalars8 (own_bytes b w i) ≡ None → label_of b placeholder i ≡ error (record { number = 35; place = i })
    unfolding label_of
    ill_formed_lem e = rw o (simp (le-leb i w.names h, e))

-- ---- where a name lies

module _ {b : List ℕ} {e i : ℕ} (n : HasName b e i) (least : 1 ≤ i) where
  is_piece : name_bytes b e i ≡ get_or (pieces (heap_of b e)) (i - 1) []
  unfolding name_bytes
  is_piece = simp (ne_eqb i 0 (λ z. omega arith))

  name_inside : name_start b e i + length (name_bytes b e i) ≤ e
  name_inside =
      let ps : List (List ℕ) = pieces (heap_of b e) in
      let l : 40 ≤ e = named_heap n least in
      omega (arith, lengths_at ps (i - 1) (omega (arith, named_piece n least)), lengths_pieces (heap_of b e), length-slice 40 e b n.inside, ap length is_piece)

  name_at : take (length (name_bytes b e i)) (drop (name_start b e i) b) ≡ name_bytes b e i
  name_at =
      let k : ℕ = length (name_bytes b e i) in
      let m : ℕ = length_with_zeros (take (i - 1) (pieces (heap_of b e))) in
      cut (40 + m) k b
      ∙ ap (drop (40 + m)) (sym (take-take (40 + m + k) e b name_inside))
      ∙ sym (cut (40 + m) k (take e b))
      ∙ ap (take k) (sym (drop-drop m 40 (take e b)))
      ∙ rw is_piece (piece_at (heap_of b e) (i - 1) (omega (arith, named_piece n least)))
    where
      cut : (a k : ℕ) (xs : List ℕ) → take k (drop a xs) ≡ slice a (a + k) xs
      cut a k xs =
          let z : a + k - a ≡ k = omega arith in
          rw z at (part_slice a (a + k) xs (omega arith))

-- ---- the part of a name

-- a name with bytes is a stored one
not_first : (b : List ℕ) (w : FileWrapper) (i : ℕ) → eqb (length (own_bytes b w i)) 0 ≡ false → 1 ≤ i
unfolding name_bytes
not_first b w zero t = absurd (eqb-false 0 0 t refl)
not_first b w (suc i) t = omega arith

-- a part of the blob: that of a stored name
record Stored (b : List ℕ) (w : FileWrapper) (i : ℕ) (p : Part) : Type 0 where
  pub least : 1 ≤ i
  pub begins : p.start ≡ name_start b (get_or w.offsets 0 0) i
  pub size : p.length ≡ length (own_bytes b w i)

module _ (b placeholder : List ℕ) (w : FileWrapper) (i : ℕ) {p : Part} (is : p ≡ name_part b placeholder w i) where
  in_blob : p.source ≡ source.Blob → Stored b w i p
  in_blob s =
      either (eqb (length (own_bytes b w i)) 0)
      (λ t. let q : p ≡ placeholder_part (length placeholder) = is ∙ simp t in
      clash cc)
      (λ t. let q : p ≡ record { source = source.Blob; start = name_start b (get_or w.offsets 0 0) i; length = length (own_bytes b w i) } = is ∙ simp t in
      record { least = not_first b w i t; begins = ap (λ (x : Part). x.start) q; size = ap (λ (x : Part). x.length) q })

  in_placeholder : p.source ≡ source.Placeholder → p ≡ placeholder_part (length placeholder)
  in_placeholder s =
      either (eqb (length (own_bytes b w i)) 0) (λ t. is ∙ simp t)
      (λ t. let q : p ≡ record { source = source.Blob; start = name_start b (get_or w.offsets 0 0) i; length = length (own_bytes b w i) } = is ∙ simp t in
      clash cc)

-- ---- what an accepted label says

record Accepted (b placeholder : List ℕ) (i : ℕ) (p : Part) : Type 0 where
  pub wrapper : FileWrapper
  pub opened_is : opened b ≡ ok wrapper
  pub named : i ≤ wrapper.names
  pub scalars : List ℕ
  pub sound : scalars8 (own_bytes b wrapper i) ≡ Some scalars
  pub is : p ≡ name_part b placeholder wrapper i

accepted : (b placeholder : List ℕ) (i : ℕ) {p : Part} → label_of b placeholder i ≡ ok p → Accepted b placeholder i p
unfolding label_of
accepted b placeholder i {p} e =
    let o = bind_passed (opened b) _ e in
    let n = check_passed 11 (leb i o.0.names) i _ o.1.1 in
    let s = seq_passed (check_well_formed (own_bytes b o.0 i) i) _ n.1 in
    let q : ok (name_part b placeholder o.0 i) ≡ ok p = s.1.1 in
    record {
      wrapper = o.0;
      opened_is = o.1.0;
      named = leb-true i o.0.names n.0;
      scalars = s.0;
      sound = or_error_passed _ (scalars8 (own_bytes b o.0 i)) s.1.0;
      is = sym (same_value q);
    }

module _ {b placeholder : List ℕ} {i : ℕ} {p : Part} (a : Accepted b placeholder i p) where
  named_in : HasName b (get_or a.wrapper.offsets 0 0) i
  named_in =
      let o = opens b a.wrapper a.opened_is in
      record { inside = omega (arith, o); most = omega (arith, o.names, a.named) }

  stored : p.source ≡ source.Blob → Stored b a.wrapper i p
  stored s = in_blob b placeholder a.wrapper i a.is s

-- ---- the laws of a label

-- 35 fails exactly where the name is shown with a replacement character
module _ (b placeholder : List ℕ) (i : ℕ) {w : FileWrapper} (o : opened b ≡ ok w) (h : i ≤ w.names) where
  pub label_ill_formed : ((shown b w i).replaced ≡ 0 → ⊥) → label_of b placeholder i ≡ error (record { number = 35; place = i })
  label_ill_formed n = ill_formed_lem b placeholder i o h (part_replaced (own_bytes b w i) n)

  pub label_well_formed : (shown b w i).replaced ≡ 0 → label_of b placeholder i ≡ ok (name_part b placeholder w i)
  label_well_formed z = well_formed b placeholder i o h (none_replaced (own_bytes b w i) z)

  -- an empty name gives the whole placeholder
  pub label_empty : own_bytes b w i ≡ [] → label_of b placeholder i ≡ ok (placeholder_part (length placeholder))
  label_empty z =
      well_formed b placeholder i o h (ap scalars8 z ∙ scalars8_empty)
      ∙ ap ok (simp (eq-eqb (length (own_bytes b w i)) 0 (ap length z)))

-- index 0 is the empty name
pub label_zero : (b placeholder : List ℕ) {w : FileWrapper} → opened b ≡ ok w → label_of b placeholder 0 ≡ ok (placeholder_part (length placeholder))
unfolding name_bytes
label_zero b placeholder o = label_empty b placeholder 0 o (omega arith) refl

module _ (b placeholder : List ℕ) (i : ℕ) {p : Part} (e : label_of b placeholder i ≡ ok p) where
  -- a part of the blob is the name as it is shown, with nothing replaced
  pub label_shown : p.source ≡ source.Blob → name_text b i ≡ ok (sound_text (take p.length (drop p.start b)))
  unfolding name_text
  label_shown s =
      let a = accepted b placeholder i e in
      let t = stored a s in
      let at : take p.length (drop p.start b) ≡ own_bytes b a.wrapper i = ap₂ (λ (n m : ℕ). take n (drop m b)) t.size t.begins ∙ name_at (named_in a) t.least in
      rw a.opened_is
      (simp (le-leb i a.wrapper.names a.named)
      (rw (lossy_same (own_bytes b a.wrapper i) a.sound ∙ sym at, sound_replaced (own_bytes b a.wrapper i) a.sound)))

  -- and no other name's, though that may have the same bytes
  pub label_own : (j : ℕ) → label_of b placeholder j ≡ ok p → p.source ≡ source.Blob → i ≡ j
  label_own j f s =
      let a = accepted b placeholder i e in
      let c = accepted b placeholder j f in
      let same : a.wrapper ≡ c.wrapper = same_value (sym a.opened_is ∙ c.opened_is) in
      let t = stored a s in
      let u : Stored b a.wrapper j p = subst (λ (w : FileWrapper). Stored b w j p) (sym same) (stored c s) in
      let ps : List (List ℕ) = pieces (heap_of b (get_or a.wrapper.offsets 0 0)) in
      let few : i ≤ length ps = named_piece (named_in a) t.least in
      let z : name_start b (get_or a.wrapper.offsets 0 0) i ≡ name_start b (get_or a.wrapper.offsets 0 0) j = sym t.begins ∙ u.begins in
      let m : j ≤ length ps = subst (λ (w : FileWrapper). j ≤ length (pieces (heap_of b (get_or w.offsets 0 0)))) (sym same) (named_piece (named_in c) (stored c s).least) in
      either (ltb i j)
      (λ y. absurd (omega (arith, lengths_less ps (i - 1) (j - 1) (omega (arith, ltb-true i j y, t.least)) (omega arith))))
      (λ y. either (ltb j i)
      (λ x. absurd (omega (arith, lengths_less ps (j - 1) (i - 1) (omega (arith, ltb-true j i x, u.least)) (omega arith))))
      (λ x. omega (arith, ltb-false i j y, ltb-false j i x)))

-- ---- the outcomes of `label_source`

module _ (b placeholder : List ℕ) (i : ℕ) {w : FileWrapper} (o : ok w ≡ opened b) where
  pub source_zero : i ≡ 0 → {p : Part} → p ≡ placeholder_part (length placeholder) → ok p ≡ label_of b placeholder i
  source_zero z u = ap ok u ∙ sym (ap (label_of b placeholder) z ∙ label_zero b placeholder (sym o))

  module _ {u : Unit {0}} (c : ok u ≡ check_name w i) (named : i ≡ 0 → ⊥) where
    pub stored_name : (1 ≤ i) × (i ≤ w.names)
    stored_name = (omega arith, declared w i c)

  module _ {u : Unit {0}} (c : ok u ≡ check_name w i) (named : i ≡ 0 → ⊥) (rest : List ℕ) (s : pieces rest ≡ drop (i - 1) (pieces (heap_of b (get_or w.offsets 0 0)))) where
    has : HasName b (get_or w.offsets 0 0) i
    has = has_name (parsed o) (declared w i c)

    rest_starts : get_or w.offsets 0 0 ≡ name_start b (get_or w.offsets 0 0) i + length rest
    rest_starts =
        let heap : List ℕ = heap_of b (get_or w.offsets 0 0) in
        omega (arith, starts_place heap rest i s, length-slice 40 (get_or w.offsets 0 0) b has.inside, named_heap has (omega arith))

    pub rest_fits : length rest ≤ get_or w.offsets 0 0
    rest_fits = omega (arith, rest_starts)

    own : before_zero rest ≡ own_bytes b w i
    own = rest_name (heap_of b (get_or w.offsets 0 0)) rest i s ∙ sym (is_piece has (omega arith))

    pub source_ill_formed : None ≡ terminated_length rest → error (record { number = 35; place = i }) ≡ label_of b placeholder i
    source_ill_formed e = sym (ill_formed_lem b placeholder i (sym o) (declared w i c) (ap scalars8 (sym own) ∙ terminated_not rest e refl))

    module _ {n : ℕ} (e : Some n ≡ terminated_length rest) where
      told : label_of b placeholder i ≡ ok (name_part b placeholder w i)
      told = well_formed b placeholder i (sym o) (declared w i c) (ap scalars8 (sym own) ∙ (terminated_is rest e refl).1.0)

      bytes : n ≡ length (own_bytes b w i)
      bytes = (terminated_is rest e refl).1.1 ∙ ap length own

      pub source_empty : n ≡ 0 → {p : Part} → p ≡ placeholder_part (length placeholder) → ok p ≡ label_of b placeholder i
      source_empty z u = ap ok u ∙ sym (told ∙ ap ok (simp (eq-eqb (length (own_bytes b w i)) 0 (sym bytes ∙ z))))

      pub source_blob : (n ≡ 0 → ⊥) → ok (record { source = source.Blob; start = get_or w.offsets 0 0 - length rest; length = n }) ≡ label_of b placeholder i
      source_blob m =
          let k : get_or w.offsets 0 0 - length rest ≡ name_start b (get_or w.offsets 0 0) i = omega (arith, rest_starts) in
          sym (told ∙ ap ok (simp (ne_eqb (length (own_bytes b w i)) 0 (λ z. m (bytes ∙ z))) (rw (sym bytes, k))))

-- ---- the outcomes of `label`

module _ (b placeholder : List ℕ) (i : ℕ) {p : Part} (e : ok p ≡ label_of b placeholder i) where
  pub blob_fits : p.source ≡ source.Blob → p.start + p.length ≤ length b
  blob_fits s =
      let a = accepted b placeholder i (sym e) in
      let t = stored a s in
      omega (arith, t, name_inside (named_in a) t.least, (named_in a).inside)

  pub placeholder_fits : p.source ≡ source.Placeholder → p.start + p.length ≤ length placeholder
  placeholder_fits s =
      let a = accepted b placeholder i (sym e) in
      let q = in_placeholder b placeholder a.wrapper i a.is s in
      omega (arith, ap (λ (y : Part). y.start) q, ap (λ (y : Part). y.length) q)

  -- their sum has 64 bits
  pub part_fits : p.start + p.length ≤ length b + length placeholder
  part_fits = by p.source refl
    where
      by : (s : Source) → p.source ≡ s → p.start + p.length ≤ length b + length placeholder
      by source.Blob s = omega (arith, blob_fits s)
      by source.Placeholder s = omega (arith, placeholder_fits s)

-- one law for the parts of both buffers
pub part_given :
    (blob placeholder : Bor (List ℕ)) (i : ℕ) {p : Part} → ok p ≡ label_of blob.now placeholder.now i → {s : Source} → p.source ≡ s → {r : Bor (List ℕ)}
    → IsPart p.start (p.start + p.length - p.start) (buffer_of s blob placeholder) r → IsLabel blob placeholder i r
part_given blob placeholder i {p} e {s} is {r} w =
    let z : p.start + p.length - p.start ≡ p.length = omega arith in
    rw (← e, is) (rw z at w)
