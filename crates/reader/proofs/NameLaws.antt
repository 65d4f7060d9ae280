-- What an opened blob has, and what a query that writes a text comes to.
-- Assumes nothing.
use mathlib.Core.Path.{◌≡◌, refl, sym, ap, ◌∙◌, subst}
use mathlib.Core.Bool.{◌||◌}
use mathlib.Core.List.{List}
use Prim.Native.Nat.{ℕ, ◌+◌, ◌-◌, ◌^◌, ◌≤◌, ◌<◌}
use native.Mathlib.Omega.{arith}
use borrow.Author.Tests.{lt-ltb, leb-true}
use lib.Dec.{leb, eqb}
use lib.ListN.{length, take, drop, length-take, get_or}
use lib.Seq.{slice, length-slice}
use Rattle.std.specs.Option.{UnwrapsOrElse}
use Rattle.std.specs.Prelude.{IsErr, Option, Some, Result as Reply}
use Rattle.std.specs.Result.{IsErrAnd}
use Rattle.std.proofs.lemmas.List.{drop-take}
use Rattle.text.specs.Errors.{failure_of}
use Rattle.text.specs.Replies.{lossy_length, lossy_size}
use Rattle.text.specs.Result.{Result, ok, error, check_each}
use Rattle.text.specs.Utf8.{lossy}
use Rattle.text.specs.declared.error.MatError.{MatError}
use Rattle.text.specs.declared.utf8.LossySize.{LossySize}
use Rattle.text.proofs.ReplyLaws.{handed_on}
use Rattle.text.proofs.ResultLaws.{same_value, check_passed, check_is, seq_passed, bind_passed}
use Rattle.text.proofs.TestLaws.{either}
use Rattle.text.proofs.Utf8Laws.{lossy_le}
use Rattle.text.proofs.utf8.Lossy.{replaced_le}
use Rattle.reader.specs.Blocks.{blocks}
use Rattle.reader.specs.Names.{ShownText, pieces, heap_of}
use Rattle.reader.specs.Stages.Names.{HasName, HasPiece, FirstPiece, IsSize}
use Rattle.reader.specs.Opening.{declared_names, offset, is_within, is_ordered, piece_count, wrapper_of, check_regions, layout, empty_wrapper, opened}
use Rattle.reader.specs.Stages.Opening.{Ordered, Opens}
use Rattle.reader.specs.Queries.{check_name, own_bytes}
use Rattle.reader.specs.Replies.{WritesText}
use Rattle.reader.specs.declared.file_wrapper.FileWrapper.{FileWrapper}
use Rattle.reader.proofs.blocks.Laws.{blocks_end}
use Rattle.reader.proofs.file_wrapper.Laws.{up, inside}
use Rattle.reader.proofs.names.Pieces.{from_here, named_heap, named_piece, starts_place, name_found}

-- ---- what an opened blob has

-- one with a header
by_header : (b : List ℕ) (w : FileWrapper) → length b ≤ 16777216 → opened b ≡ ok w → layout b ≡ ok w → Opens b w
unfolding layout check_regions
by_header b w l o e =
    let p3 = seq_passed (check_each 3 (is_within b) 0 8) _ e in
    let p4 = check_passed 4 (leb 40 (offset b 0)) 0 _ p3.1.1 in
    let p5 = seq_passed (check_each 5 (is_ordered b) 1 8) _ p4.1 in
    let p6 = check_passed 6 (leb (declared_names b) (piece_count b)) (piece_count b) _ p5.1.1 in
    let p7 = bind_passed (blocks 12 b (offset b 1) (offset b 2)) _ p6.1 in
    let p8 = bind_passed (blocks 12 b (offset b 3) (offset b 4)) _ p7.1.1 in
    let k = p8.1.1 in
    let i : wrapper_of b p7.0 p8.0 ≡ w = cc in
    subst (Opens b) i
    (record {
      is = rw i o;
      most = l;
      names = rw (from_here 40 b (offset b 0) (leb-true 40 (offset b 0) p4.0)) (leb-true (declared_names b) (piece_count b) p6.0);
      classes = up b p5.1.0 1 (omega arith) (omega arith);
      saveobj = up b p5.1.0 2 (omega arith) (omega arith);
      records = up b p5.1.0 3 (omega arith) (omega arith);
      normalobj = up b p5.1.0 4 (omega arith) (omega arith);
      inside = inside b p3.1.0 4 (omega arith);
      class_entries_lem = refl;
      object_records = refl;
      saveobj_blocks = p7.1.0;
      normalobj_blocks = p8.1.0;
    })

pub opens : (b : List ℕ) (w : FileWrapper) → opened b ≡ ok w → Opens b w
unfolding opened
opens b w e =
    let p1 = check_passed 1 (leb (length b) 16777216) (length b) _ e in
    let p2 = check_passed 2 (eqb (length b) 0 || leb 40 (length b)) (length b) _ p1.1 in
    let l = leb-true (length b) 16777216 p1.0 in
    either (eqb (length b) 0)
    (λ t. let i : empty_wrapper ≡ w = same_value (simp t at p2.1) in
    subst (Opens b) i
    (record {
      is = e ∙ ap ok (sym i);
      most = l;
      names = omega arith;
      classes = omega arith;
      saveobj = omega arith;
      records = omega arith;
      normalobj = omega arith;
      inside = omega arith;
      class_entries_lem = refl;
      object_records = refl;
      saveobj_blocks = blocks_end 12 b 0 0 0 (omega arith);
      normalobj_blocks = blocks_end 12 b 0 0 0 (omega arith);
    }))
    (λ t. by_header b w l e (simp t at p2.1))

-- what the reply of `parse` says
pub parsed : {b : List ℕ} {w : FileWrapper} → ok w ≡ opened b → Opens b w
parsed {b} {w} e = opens b w (sym e)

-- an id has 32 bits, and no blob has more records
pub few_records : (b : List ℕ) {w : FileWrapper} → ok w ≡ opened b → w.records < 2 ^ 32
few_records b e =
    let o = parsed e in
    omega (arith, o, o.object_records)

-- ---- a query that writes a text

-- the part of a slice from a up to e
pub part_slice : (a e : ℕ) (b : List ℕ) → a ≤ e → take (e - a) (drop a b) ≡ slice a e b
part_slice a e b h =
    let z : a + (e - a) ≡ e = omega arith in
    rw z at (sym (drop-take a (e - a) b))

-- a refusal that `?` hands on
pub refused : (m : Result ShownText) (text : List ℕ) (r : Reply LossySize MatError) (e : MatError)
    → IsErr r × IsErrAnd r (λ y. y ≡ e) → m ≡ error (failure_of e) → WritesText m text r text
refused m text r e p w = rw w (record { reply = handed_on r e p; buffer = refl })

-- the call comes to k, which another writes
pub text_by : {m k : Result ShownText} → m ≡ k → {text text' : List ℕ} {r : Reply LossySize MatError} → WritesText k text r text' → WritesText m text r text'
text_by e t = rw e t

pub shown_size : (s : List ℕ) → length s ≤ 16777216 → {x : Option LossySize} → x ≡ lossy_length s → (P : LossySize → Type 0) {n : LossySize} → UnwrapsOrElse x P n → IsSize s n
unfolding lossy_length
shown_size s few l p {n} e =
    let most : length (lossy s) ≤ 50331648 = omega (arith, lossy_le s) in
    let fits = lt-ltb (length (lossy s)) (2 ^ 64) (omega (arith, most)) in
    let some : lossy_length s ≡ Some (lossy_size s) = simp fits refl in
    let is : n ≡ lossy_size s = rw (l ∙ some) at e in
    rw is (record { bytes = refl; most = most; replaced = refl; few = omega (arith, replaced_le s) })

-- ---- a name

pub declared : (w : FileWrapper) (i : ℕ) {u : Unit {0}} → ok u ≡ check_name w i → i ≤ w.names
declared w i e = leb-true i w.names (check_is 11 (leb i w.names) i (sym e))

pub has_name : {b : List ℕ} {w : FileWrapper} → Opens b w → {i : ℕ} → i ≤ w.names → HasName b (get_or w.offsets 0 0) i
has_name o h = record { inside = omega (arith, o); most = omega (arith, o.names) }

pub heap_count : {b : List ℕ} {o : List ℕ} → Ordered b o → {n : ℕ} → n ≡ length (pieces (take (get_or o 0 0 - 40) (drop 40 b))) → n ≡ piece_count b
heap_count {b} {o} k e = rw (part_slice 40 (get_or o 0 0) b k.heap, k.is) at e

-- a stored name
module _ {b : List ℕ} {w : FileWrapper} (o : Opens b w) {i : ℕ} (least : 1 ≤ i) (h : i ≤ w.names) where
  pub heap_least : 40 ≤ get_or w.offsets 0 0
  heap_least = named_heap (has_name o h) least

  pub heap_piece : {heap : List ℕ} → heap ≡ heap_of b (get_or w.offsets 0 0) → HasPiece heap i
  heap_piece r = record { least = least; most = rw r (named_piece (has_name o h) least) }

-- its piece, as the code slices the rest of the heap
module _ {b : List ℕ} {w : FileWrapper} (o : Opens b w) {i : ℕ} (h : i ≤ w.names) (some : i ≡ 0 → ⊥) where
  pub own_part : {rest : List ℕ} → pieces rest ≡ drop (i - 1) (pieces (heap_of b (get_or w.offsets 0 0))) → {n : ℕ} → FirstPiece rest n
      → (take n rest ≡ own_bytes b w i) × (length (take n rest) ≤ 16777216)
  own_part {rest} p {n} f =
      (name_found b (get_or w.offsets 0 0) i some p f, omega (arith, length-take n rest, f.inside, starts_place (heap_of b (get_or w.offsets 0 0)) rest i p, length-slice 40 (get_or w.offsets 0 0) b (omega (arith, o)), o))
