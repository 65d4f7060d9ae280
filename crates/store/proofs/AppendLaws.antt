-- Writing an append.
-- Assumes nothing.
use Prim.Native.Nat.{ℕ, ◌+◌, ◌-◌, ◌*◌, ◌≤◌, ◌<◌}
use mathlib.Core.Path.{◌≡◌, refl, sym, ap, subst, ◌∙◌}
use mathlib.Core.List.{List, [], ◌∷◌, ◌++◌, append_assoc, append-nil, map, map-append, flat_map}
use native.Mathlib.Nat.{add-zero}
use native.Mathlib.Omega.{arith}
use borrow.Author.Tests.{le-leb}
use borrow.Rule.Slice.PartMut.{mid_of, put_mid}
use lib.ListN.{length, take, drop, set, replicate, length-drop}
use lib.Seq.{drop-drop, drop-length, take_all}
use Rattle.text.specs.Buffer.{put, over}
use Rattle.std.specs.Prelude.{Ok, IsErr, Result as Reply}
use Rattle.std.specs.Result.{IsErrAnd, result_unwrap_or}
use Rattle.std.proofs.lemmas.List.{replicate_more}
use Rattle.text.specs.Errors.{failure_of}
use Rattle.text.specs.Result.{Result, ok, error}
use Rattle.text.specs.declared.error.MatError.{MatError}
use Rattle.text.proofs.BufferLaws.{put_none, put_one, put_over}
use Rattle.writer.specs.Array.{Array, payload, payloads, payload_spans, array_of, encode_payload}
use Rattle.writer.specs.FileWrapper.{file_wrapper}
use Rattle.writer.specs.Replies.{EncodesPayload, BuildsMetadata}
use Rattle.writer.specs.Spans.{spans_from}
use Rattle.writer.proofs.FileWrapperLaws.{length_file_wrapper, builds}
use Rattle.writer.proofs.LayoutLaws.{spans_append}
use Rattle.store.specs.declared.array.StringArray.{StringArray}
use Rattle.store.specs.declared.counts.Counts.{Counts}
use Rattle.store.specs.declared.edits.Edit.{Edit as Kind}
use Rattle.store.specs.declared.edits.Edit.TheVariants as kind
use Rattle.store.specs.Store.{Store, serialize, counted, stored_arrays}
use Rattle.store.specs.Model.{call}
use Rattle.store.specs.Replies.{store_with, edit_in, Edits}
use Rattle.store.specs.Stages.{array_lent, ArrayFits, EntryFits, PutsEntry, objects_after, arrays_after, Passes}
use Rattle.store.proofs.ReplyLaws.{err_is}
use Rattle.store.proofs.CallLaws.{length_after, words_with_are}
use Rattle.store.proofs.CanonicalLaws.{store_path}

-- ---- the stages

one_put : (d : List ℕ) (at x : ℕ) → at < length d → set d at x ≡ put d at (x ∷ [])
one_put d at x h = rw (put_none, add-zero) at (put_one d at [] x (omega arith))

pub two_put : (d : List ℕ) (at x y : ℕ) → at + 1 < length d → set (set d at x) (at + 1) y ≡ put d at (x ∷ y ∷ [])
two_put d at x y h = ap (λ (l : List ℕ). set l (at + 1) y) (one_put d at x (omega arith)) ∙ put_one d at (x ∷ []) y h

-- a payload that fits is written over the front of the part that is lent
encoded : (a : StringArray) (part : List ℕ) {r : Reply ℕ MatError} {part' : List ℕ} → array_of a.dims.now a.text.now a.spans.now ≡ ok (array_lent a)
    → length (payload (array_lent a)) ≤ length part → EncodesPayload a.dims.now a.text.now a.spans.now part r part' → part' ≡ over (payload (array_lent a)) part
unfolding encode_payload
encoded a part e h m =
    let n = length (payload (array_lent a)) in
    let k : encode_payload a.dims.now a.text.now a.spans.now (length part) ≡ ok (payload (array_lent a)) = rw e (simp (le-leb n (length part) h)) in
    m.buffer ∙ rw k

pub array_put : (a : StringArray) (w : List ℕ) (start : ℕ) {r : Reply ℕ MatError} {part' : List ℕ} → ArrayFits a start (length w)
    → EncodesPayload a.dims.now a.text.now a.spans.now (mid_of start (length w - start) w) r part'
    → put_mid start (length w - start) w part' ≡ put w start (payload (array_lent a))
unfolding put
array_put a w start {part' = part'} f m =
    let p : List ℕ = payload (array_lent a) in
    let k : ℕ = length w - start in
    let all : mid_of start k w ≡ drop start w = take_all k (drop start w) (omega (arith, length-drop start w)) in
    let end : start + k ≡ length w = omega (arith, f.fits) in
    let none : drop k (drop start w) ≡ [] = drop-drop k start w ∙ rw end (drop-length w) in
    let e = encoded a (mid_of start k w) f.passed (omega (arith, ap length all, length-drop start w, f.fits)) m in
    rw (none, append-nil part', e, all, drop-drop (length p) start w) (sym (append_assoc (take start w) p (drop (start + length p) w)))

pub entry_put : (n offset len : ℕ) (d ks : List ℕ) → EntryFits n (length d) (length ks) → PutsEntry n offset len d ks (set (set d (2 * n) offset) (2 * n + 1) len) (set ks n 0)
entry_put n offset len d ks f = record { pair = two_put d (2 * n) offset len (omega (arith, f.pair)); kind = one_put ks n 0 f.kind }

-- ---- the parts of the serialization with one array more

spans_last : (o : ℕ) (xs : List Array) (a : Array) → payload_spans o (xs ++ a ∷ []) ≡ payload_spans o xs ++ (o + length (payloads xs)) ∷ length (payload a) ∷ []
unfolding spans_from payloads
spans_last o xs a = ap (spans_from o) (map-append payload xs (a ∷ [])) ∙ spans_append o (map payload xs) (payload a ∷ [])

payloads_last : (xs : List Array) (a : Array) → payloads (xs ++ a ∷ []) ≡ payloads xs ++ payload a
unfolding payloads flat_map
payloads_last [] a = append-nil (payload a)
payloads_last (x ∷ xs) a = ap (λ (l : List ℕ). payload x ++ l) (payloads_last xs a) ∙ sym (append_assoc (payload x) (payloads xs) (payload a))

-- ---- the whole

-- an edit that is refused
pub edit_refused : (c : Counts) (bs ds ks ws : List ℕ) (m : Result (List Array)) (r : Reply Counts MatError) (e : MatError) → IsErr r × IsErrAnd r (λ y. y ≡ e)
    → m ≡ error (failure_of e) → Edits (store_with c bs ds ks ws) m r (store_with (result_unwrap_or r c) bs ds ks ws)
edit_refused c bs ds ks ws m r e p q =
    subst (λ (x : Reply Counts MatError). Edits (store_with c bs ds ks ws) m x (store_with (result_unwrap_or x c) bs ds ks ws)) (sym (err_is r e p))
    (rw q (record { reply = refl; store = refl }))

-- the counts after an edit that passes are those of the arrays after it
module _ {s : Store} {k : Kind} {a : StringArray} {len : ℕ} {c : Counts} (p : Passes s k a len c) where
  abbrev after : List Array
  after = arrays_after (stored_arrays (counted s)) k (array_lent a)

  abbrev is : counted s ≡ serialize (stored_arrays (counted s))
  is = p.measured.store.canonical

  pub objects_fit : c.objects ≡ length after
  objects_fit =
      ap (λ (d : Counts). d.objects) p.counts ∙ ap (λ (n : ℕ). objects_after n k) (ap (λ (t : Store). t.objects) is)
      ∙ sym (length_after (stored_arrays (counted s)) k (array_lent a))

  pub bytes_fit : c.blob_bytes ≡ length (file_wrapper (length after))
  bytes_fit =
      ap (λ (d : Counts). d.blob_bytes) p.counts
      ∙ omega (arith, ap (λ (d : Counts). d.objects) p.counts, objects_fit, length_file_wrapper (length after))

  pub words_fit : c.words ≡ length (payloads after)
  words_fit = ap (λ (d : Counts). d.words) p.counts ∙ rw p.measured.array.long (words_with_are s (stored_arrays (counted s)) is k p.measured.id (array_lent a))

pub append_done : (c : Counts) (bs ds ks ws : List ℕ) (a : StringArray) (len : ℕ) (c' : Counts) {n start : ℕ} {r : Reply ℕ MatError} {bs' ds' ks' ws' : List ℕ}
    → Passes (store_with c bs ds ks ws) kind.Append a len c' → BuildsMetadata c'.objects bs r bs'
    → n ≡ c.objects → PutsEntry n c.words len ds ks ds' ks' → start ≡ c.words → ws' ≡ put ws start (payload (array_lent a))
    → Edits {A = Counts} (store_with c bs ds ks ws) (call (store_with c bs ds ks ws) (edit_in kind.Append a)) (Ok c') (store_with c' bs' ds' ks' ws')
append_done c bs ds ks ws a len c' {n} {start} {r} {bs'} {ds'} {ks'} {ws'} p m e entry f w =
    let s : Store = store_with c bs ds ks ws in
    let xs : List Array = stored_arrays (counted s) in
    let new : Array = array_lent a in
    let t = p.measured.store.canonical in
    let long : len ≡ length (payload new) = p.measured.array.long in
    let o : c'.objects ≡ c.objects + 1 = ap (λ (d : Counts). d.objects) p.counts in
    let u : c'.words ≡ c.words + len = ap (λ (d : Counts). d.words) p.counts in
    let objects : length xs ≡ c.objects = sym (ap (λ (t : Store). t.objects) t) in
    let many : length (xs ++ new ∷ []) ≡ c'.objects = sym (objects_fit p) in
    let used : c.words ≡ length (payloads xs) = ap (λ (t : Store). t.used_words) t in
    let none : c.words - length (payloads (xs ++ new ∷ [])) ≡ 0 = omega (arith, u, words_fit p) in
    let first : 0 + length (payloads xs) ≡ c.words = omega arith in
    let k = builds c'.objects (length bs) p.few (omega (arith, bytes_fit p, many, length_file_wrapper (length (xs ++ new ∷ [])), p.blob_fits)) in
    rw p.answer (record {
      reply = refl;
      store =
          store_path (objects_fit p) (bytes_fit p) (words_fit p)
          (m.buffer ∙ rw (k, many))
          (entry.pair ∙ rw (e, spans_last 0 xs new, ← long, first)
          (put_over ds (2 * c.objects) (payload_spans 0 xs) (c.words ∷ len ∷ []) (omega (arith, o, p.directory_fits)) (ap (λ (t : Store). t.directory) t)))
          (entry.kind ∙ rw (e, many, o, ← replicate_more {X = ℕ} c.objects 0)
          (put_over ks c.objects (replicate c.objects 0) (0 ∷ []) (omega (arith, o, p.kinds_fits)) (ap (λ (t : Store). t.kinds) t ∙ rw objects)))
          (w ∙ rw (f, none, payloads_last xs new, append-nil (payloads xs ++ payload new))
          (put_over ws c.words (payloads xs) (payload new) (omega (arith, u, long, p.words_fit)) (ap (λ (t : Store). t.words) t)));
    })
