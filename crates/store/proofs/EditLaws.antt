-- Demand 3: for every list of edits on an empty store, the replies and the store are the model's, and each id reads back its own array.
-- Assumes nothing.
use Prim.Native.Nat.{ℕ, ◌-◌, ◌*◌, ◌≤◌}
use mathlib.Core.Path.{◌≡◌, refl, sym, ap, ap₂, subst, ◌∙◌}
use mathlib.Core.List.{List, [], ◌∷◌, ◌++◌, append_assoc}
use native.Mathlib.Omega.{arith}
use borrow.Author.Tests.{le-leb, leb-true}
use lib.Dec.{leb}
use lib.ListN.{length, get_or, drop, set, replicate, length-append, length-take, length-replicate}
use lib.Seq.{take_at}
use Rattle.text.specs.Result.{Result, ok, error, check, need_place, ◌>>◌, ◌>>=◌}
use Rattle.text.proofs.BufferLaws.{length_over}
use Rattle.text.proofs.ResultLaws.{check_is, check_passed, seq_passed, bind_passed}
use Rattle.writer.specs.Array.{Array, no_array, Accepted, array_of, payloads, payload_spans}
use Rattle.writer.specs.FileWrapper.{file_wrapper}
use Rattle.writer.proofs.FileWrapperLaws.{length_file_wrapper}
use Rattle.writer.proofs.LayoutLaws.{length_payload_spans}
use Rattle.reader.proofs.ReadBack.{canonical_directory}
use Rattle.store.specs.declared.edits.Edit.{Edit as Kind}
use Rattle.store.specs.declared.edits.Edit.TheVariants as kind
use Rattle.store.specs.Store.{Store, Lengths, lengths_of, serialize, counted, stored_arrays}
use Rattle.store.specs.Edits.{check_counts, check_counted, check_store, check_room, reply_of, laid, store_after}
use Rattle.store.specs.Model.{Edit, append, replace, check_lengths, tried, candidate, list_after, model_from, call, execute, ReadsBack, Edited}
use Rattle.store.specs.Replies.{edit_of}
use Rattle.store.specs.Stages.{check_id, objects_after, arrays_after}
use Rattle.store.proofs.CallLaws.{id_inside, call_is, length_after, words_of, words_of_are}
use Rattle.store.proofs.StoreLaws.{AllAccepted, stored_are, serialized_canonical, accepted_last, accepted_set, reads_back}

-- ---- results

-- after the same checks, and with the same value
after_check : {A : Type 0} (m : Result (Unit {0})) {p q : Result A} → (m ≡ ok tt → p ≡ q) → (m >> p) ≡ (m >> q)
after_check (ok t) h = h refl
after_check (error e) h = refl

after_value : {A B : Type 0} (m : Result A) {f g : A → Result B} → ((a : A) → f a ≡ g a) → (m >>= f) ≡ (m >>= g)
after_value (ok a) h = h a
after_value (error e) h = refl

seq_assoc : {A : Type 0} (m n : Result (Unit {0})) (k : Result A) → (m >> (n >> k)) ≡ ((m >> n) >> k)
seq_assoc (ok t) n k = refl
seq_assoc (error e) n k = refl

-- ---- the model's candidate by the kind of an edit

candidate_is : (l : Lengths) (xs : List Array) (k : Kind) (dims text spans : List ℕ)
    → candidate l xs (edit_of k dims text spans) ≡ (check_id (length xs) k >> tried l dims text spans (arrays_after xs k))
unfolding candidate
candidate_is l xs kind.Append dims text spans = refl
candidate_is l xs (kind.Replace id) dims text spans =
    seq_assoc (check 8 (leb 1 id) id) (check 8 (leb id (length xs)) id) (tried l dims text spans (λ a. set xs (id - 1) a))

by_kind : (P : Edit → Type 0) → ((k : Kind) (dims text spans : List ℕ) → P (edit_of k dims text spans)) → (e : Edit) → P e
by_kind P f (append dims text spans) = f kind.Append dims text spans
by_kind P f (replace id dims text spans) = f (kind.Replace id) dims text spans

-- ---- the invariant: the store holds the model's arrays, in buffers of the first lengths

pub record Holds (l : Lengths) (xs : List Array) (s : Store) : Type 0 where
  pub accepted : AllAccepted xs
  pub few : length xs ≤ 349522
  pub is : counted s ≡ serialize xs
  pub sized : lengths_of s ≡ l

-- an accepted candidate
record Fits (l : Lengths) (ys : List Array) : Type 0 where
  accepted : AllAccepted ys
  few : length ys ≤ 349522
  blob : length (file_wrapper (length ys)) ≤ l.blob
  directory : length (payload_spans 0 ys) ≤ l.directory
  kinds : length (replicate {A = ℕ} (length ys) 0) ≤ l.kinds
  words : length (payloads ys) ≤ l.words

module _ {l : Lengths} {xs : List Array} {s : Store} (k : Holds l xs s) where
  -- ---- what the counts and the counted parts are

  objects_are : s.objects ≡ length xs
  objects_are = ap (λ (c : Store). c.objects) k.is

  bytes_are : s.blob_bytes ≡ length (file_wrapper (length xs))
  bytes_are = ap (λ (c : Store). c.blob_bytes) k.is

  words_are : s.used_words ≡ length (payloads xs)
  words_are = ap (λ (c : Store). c.used_words) k.is

  blob_room : s.blob_bytes ≤ length s.blob
  blob_room = omega (arith, bytes_are, ap (λ (c : Store). length c.blob) k.is, length-take s.blob_bytes s.blob)

  directory_room : 2 * s.objects ≤ length s.directory
  directory_room =
      omega (arith, objects_are, ap (λ (c : Store). length c.directory) k.is, length-take (2 * s.objects) s.directory, length_payload_spans 0 xs)

  kinds_room : s.objects ≤ length s.kinds
  kinds_room =
      omega (arith, objects_are, ap (λ (c : Store). length c.kinds) k.is, length-take s.objects s.kinds, length-replicate {A = ℕ} (length xs) 0)

  words_room : s.used_words ≤ length s.words
  words_room = omega (arith, words_are, ap (λ (c : Store). length c.words) k.is, length-take s.used_words s.words)

  -- ---- 13 and 33 pass

  counts_pass : check_counts s ≡ ok tt
  unfolding check_counts
  counts_pass =
      simp (
        le-leb (2 * s.objects) (length s.directory) directory_room,
        le-leb s.objects (length s.kinds) kinds_room,
        le-leb s.blob_bytes (length s.blob) blob_room,
        le-leb s.used_words (length s.words) words_room,
      )

  pub store_passes : check_store s ≡ ok tt
  unfolding check_store check_counted
  store_passes =
      rw counts_pass
      (ap check_counted k.is
      ∙ rw (canonical_directory xs k.few, serialized_canonical xs k.accepted))

  pub arrays_are : stored_arrays (counted s) ≡ xs
  arrays_are = ap stored_arrays k.is ∙ stored_are xs k.accepted

  -- ---- the edits' checks and the model's come to the same

  same_room : (ys : List Array) (n w : ℕ) → n ≡ length ys → w ≡ length (payloads ys) → check_room (lengths_of s) n w ≡ check_lengths l (serialize ys)
  unfolding check_room check_lengths
  same_room ys n w e f = rw (← k.sized, length_file_wrapper, length_payload_spans, length-replicate, e, f)

  same_kind : (c : Kind) (dims text spans : List ℕ) → call s (edit_of c dims text spans) ≡ candidate l xs (edit_of c dims text spans)
  unfolding tried
  same_kind c dims text spans =
      call_is s c dims text spans ∙ rw (store_passes, candidate_is, ← objects_are)
      (after_check (check_id s.objects c) (λ i. after_value (array_of dims text spans) (λ a.
      let n : objects_after s.objects c ≡ length (arrays_after xs c a) = rw objects_are (sym (length_after xs c a)) in
      rw (arrays_are, same_room (arrays_after xs c a) (objects_after s.objects c) (words_of s c a) n (words_of_are s xs k.is c (id_inside s.objects c i) a), n))))

  pub same_call : (e : Edit) → call s e ≡ candidate l xs e
  same_call = by_kind (λ e. call s e ≡ candidate l xs e) same_kind

  -- ---- the serialization of a list that fits, laid over the buffers, is held

  module _ {ys : List Array} (f : Fits l ys) where
    zeros : List ℕ
    zeros = replicate (s.used_words - length (payloads ys)) 0

    long_words : length (payloads ys ++ zeros) ≤ length s.words
    unfolding zeros
    long_words =
        omega (
          arith,
          length-append (payloads ys) (replicate (s.used_words - length (payloads ys)) 0),
          length-replicate {A = ℕ} (s.used_words - length (payloads ys)) 0,
          words_room,
          f.words,
          ap (λ (m : Lengths). m.words) k.sized,
        )

    laid_is : counted (laid s ys) ≡ serialize ys
    unfolding zeros
    laid_is =
        rw (
          take_at (file_wrapper (length ys)) (drop (length (file_wrapper (length ys))) s.blob) (length (file_wrapper (length ys))) refl,
          take_at (payload_spans 0 ys) (drop (length (payload_spans 0 ys)) s.directory) (2 * length ys) (length_payload_spans 0 ys),
          take_at (replicate (length ys) 0) (drop (length (replicate {A = ℕ} (length ys) 0)) s.kinds) (length ys) (length-replicate (length ys) 0),
          append_assoc (payloads ys) (replicate (s.used_words - length (payloads ys)) 0) (drop (length (payloads ys ++ replicate (s.used_words - length (payloads ys)) 0)) s.words),
          take_at (payloads ys) (replicate (s.used_words - length (payloads ys)) 0 ++ drop (length (payloads ys ++ replicate (s.used_words - length (payloads ys)) 0)) s.words) (length (payloads ys)) refl,
        )

    laid_sized : lengths_of (laid s ys) ≡ l
    unfolding zeros
    laid_sized =
        let e = k.sized in
        rw (
          length_over (file_wrapper (length ys)) s.blob (subst (λ (m : Lengths). length (file_wrapper (length ys)) ≤ m.blob) (sym e) f.blob),
          length_over (payload_spans 0 ys) s.directory (subst (λ (m : Lengths). length (payload_spans 0 ys) ≤ m.directory) (sym e) f.directory),
          length_over (replicate (length ys) 0) s.kinds (subst (λ (m : Lengths). length (replicate {A = ℕ} (length ys) 0) ≤ m.kinds) (sym e) f.kinds),
          length_over (payloads ys ++ replicate (s.used_words - length (payloads ys)) 0) s.words long_words,
        ) e

    lays : Holds l ys (laid s ys)
    lays = record { accepted = f.accepted; few = f.few; is = laid_is; sized = laid_sized }

-- ---- an accepted candidate fits

tried_fits : (l : Lengths) (dims text spans : List ℕ) (list : Array → List Array) {ys : List Array} → ((a : Array) → Accepted a → AllAccepted (list a))
    → tried l dims text spans list ≡ ok ys → Fits l ys
unfolding tried check_lengths
tried_fits l dims text spans list {ys} g e =
    let p = bind_passed (array_of dims text spans) _ e in
    let xs = list p.0 in
    let q = check_passed 32 (leb (length xs) 349522) (length xs) _ p.1.1 in
    let r = seq_passed (check_lengths l (serialize xs)) _ q.1 in
    let t = r.1.1 in
    let z : xs ≡ ys = cc in
    let b = check_passed 34 _ _ _ r.1.0 in
    let d = check_passed 34 _ _ _ b.1 in
    let c = check_passed 34 _ _ _ d.1 in
    rw (← z) (record {
      accepted = g p.0 (record { dims = dims; text = text; spans = spans; is = p.1.0 });
      few = leb-true (length xs) 349522 q.0;
      blob = leb-true (length (file_wrapper (length xs))) l.blob b.0;
      directory = leb-true (length (payload_spans 0 xs)) l.directory d.0;
      kinds = leb-true (length (replicate {A = ℕ} (length xs) 0)) l.kinds c.0;
      words = leb-true (length (payloads xs)) l.words (check_is 34 (leb (length (payloads xs)) l.words) (need_place (length (payloads xs))) c.1);
    })

accepted_after : (xs : List Array) (k : Kind) {a : Array} → AllAccepted xs → Accepted a → AllAccepted (arrays_after xs k a)
accepted_after xs kind.Append f w = accepted_last xs f w
accepted_after xs (kind.Replace id) f w = accepted_set xs (id - 1) f w

candidate_fits : (l : Lengths) (xs : List Array) (e : Edit) {ys : List Array} → AllAccepted xs → candidate l xs e ≡ ok ys → Fits l ys
candidate_fits l xs e {ys} f =
    by_kind (λ d. candidate l xs d ≡ ok ys → Fits l ys)
    (λ k dims text spans q. tried_fits l dims text spans (arrays_after xs k) (λ a w. accepted_after xs k f w)
    (seq_passed (check_id (length xs) k) _ (sym (candidate_is l xs k dims text spans) ∙ q)).1.1) e

-- ---- one call, and a list of them

module _ {l : Lengths} {xs : List Array} {s : Store} (k : Holds l xs s) (e : Edit) where
  holds_by : (m : Result (List Array)) → candidate l xs e ≡ m → Holds l (list_after xs m) (store_after s m)
  holds_by (ok ys) q = lays k (candidate_fits l xs e k.accepted q)
  holds_by (error n) q = k

  holds_next : Holds l (list_after xs (candidate l xs e)) (store_after s (call s e))
  holds_next = rw (same_call k e) (holds_by (candidate l xs e) refl)

-- from any store that holds arrays
pub executes : (l : Lengths) (xs : List Array) (s : Store) → Holds l xs s → (es : List Edit)
    → ((execute s es).replies ≡ (model_from l xs es).replies) × Holds l (model_from l xs es).last (execute s es).last
unfolding execute model_from
executes l xs s k [] = (refl, k)
executes l xs s k (e ∷ es) =
    let r = executes l (list_after xs (candidate l xs e)) (store_after s (call s e)) (holds_next k e) es in
    (ap₂ (λ (o : Result (Unit {0})) (os : List (Result (Unit {0}))). o ∷ os) (ap reply_of (same_call k e)) r.0, r.1)

-- DEMAND 3
pub edits_agree : (s : Store) → counted s ≡ serialize [] → (es : List Edit) → Edited s es (execute s es).last (execute s es).replies
edits_agree s empty es =
    let start : Holds (lengths_of s) [] s = record { accepted = λ i h. absurd (omega arith); few = omega arith; is = empty; sized = refl } in
    let r = executes (lengths_of s) [] s start es in
    let h = r.1 in
    record {
      answers = r.0;
      store = h.is;
      reads = λ id least most. subst (λ (c : Store). ReadsBack c id (get_or (model_from (lengths_of s) [] es).last (id - 1) no_array)) (sym h.is) (reads_back _ h.few h.accepted id least most);
    }
