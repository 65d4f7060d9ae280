-- The parts of an edit, one edit, the loop over a list of them, and the run from an empty store.
-- Assumes nothing.
use Prim.Native.Nat.{ℕ, zero, suc, ◌+◌, ◌*◌, ◌-◌, ◌/◌, ◌≤◌, ◌<◌, min}
use mathlib.Core.Path.{◌≡◌, refl, sym, ap, subst, ◌∙◌}
use mathlib.Core.List.{List, [], ◌∷◌, ◌++◌, flat_map}
use native.Mathlib.Numerals.{add-one}
use native.Mathlib.Omega.{arith}
use lib.ListN.{length, get_or, drop, length-append}
use lib.Seq.{take_at}
use Rattle.std.specs.Prelude.{Ok, IsErr, Result as Reply}
use Rattle.std.specs.Result.{IsErrAnd}
use Rattle.text.specs.Buffer.{over}
use Rattle.text.specs.Errors.{failure_of}
use Rattle.text.specs.Result.{Result, ok, error, map_result, check_output, overwritten, ◌>>◌}
use Rattle.text.specs.declared.error.Failure.{Failure}
use Rattle.text.specs.declared.error.MatError.{MatError}
use Rattle.text.proofs.BufferLaws.{SoFar, begins, goes_on, ends}
use Rattle.text.proofs.TestLaws.{clash}
use Rattle.writer.specs.Array.{payloads}
use Rattle.writer.specs.FileWrapper.{file_wrapper, build_metadata}
use Rattle.writer.specs.Spans.{spans_from}
use Rattle.writer.proofs.FileWrapperLaws.{length_file_wrapper}
use Rattle.store.specs.declared.counts.Counts.{Counts}
use Rattle.store.specs.Store.{Store, store_of}
use Rattle.store.specs.Edits.{reply_of, store_after}
use Rattle.store.specs.Model.{Edit, append, replace, call, execute}
use Rattle.store.specs.Replies.{store_with}
use Rattle.store.proofs.ReplyLaws.{err_is}
use Rattle.store.proofs.EditLaws.{edits_agree}
use Rattle.history.specs.History.{part, edit_of, edit_at, edits_from, edits_in, numbers_of, numbers, Ends, Runs}
use Rattle.history.specs.Stages.{IsEmpty, KeepsBuffers, RunsEdit}
use Rattle.history.specs.declared.StoreMut.{StoreMut}
use Rattle.history.specs.declared.Ran.{Ran}

-- ---- one edit

module _ (ops dims text spans : List ℕ) (i : ℕ) {d t p : List ℕ}
    (ed : d ≡ part dims (get_or ops (8 * i + 2) 0) (get_or ops (8 * i + 3) 0))
    (et : t ≡ part text (get_or ops (8 * i + 4) 0) (get_or ops (8 * i + 5) 0))
    (ep : p ≡ part spans (get_or ops (8 * i + 6) 0) (get_or ops (8 * i + 7) 0)) where
  pub appends : get_or ops (8 * i) 0 ≡ 0 → append d t p ≡ edit_at ops dims text spans i
  unfolding edit_at edit_of
  appends e = rw (e, ed, et, ep)

  pub replaces : (get_or ops (8 * i) 0 ≡ 0 → ⊥) → replace (get_or ops (8 * i + 1) 0) d t p ≡ edit_at ops dims text spans i
  unfolding edit_at edit_of
  replaces e =
      let k : get_or ops (8 * i) 0 ≡ suc (get_or ops (8 * i) 0 - 1) = omega arith in
      rw (k, ed, et, ep)

-- ---- the loop

pub keeps_on : {s t u : StoreMut} → KeepsBuffers s t → KeepsBuffers t u → KeepsBuffers s u
keeps_on k l = record { blob = l.blob ∙ k.blob; directory = l.directory ∙ k.directory; kinds = l.kinds ∙ k.kinds; words = l.words ∙ k.words }

two_numbers : (r : Result (Unit {0})) → length (numbers_of r) ≡ 2
two_numbers (ok t) = refl
two_numbers (error e) = refl

length_edits : (edit : ℕ → Edit) (i n : ℕ) → length (edits_from edit i n) ≡ n
unfolding edits_from
length_edits edit i zero = refl
length_edits edit i (suc n) = ap suc (length_edits edit (suc i) n)

length_numbers : (es : List Edit) (s : Store) → length (numbers (execute s es).replies) ≡ 2 * length es
unfolding execute flat_map
length_numbers [] s = refl
length_numbers (e ∷ es) s =
    let t : Store = store_after s (call s e) in
    omega (
      arith,
      length-append (numbers_of (reply_of (call s e))) (numbers (execute t es).replies),
      two_numbers (reply_of (call s e)),
      length_numbers es t,
    )

-- i of n edits are run, and left the store s
pub record Running (s₀ : Store) (ops dims text spans replies₀ : List ℕ) (n : ℕ) (s : Store) (replies : List ℕ) (i : ℕ) : Type 0 where
  pub count : n ≡ min (length ops / 8) (length replies₀ / 2)
  pub bound : i ≤ n
  pub last : (execute s₀ (edits_from (edit_at ops dims text spans) 0 n)).last ≡ (execute s (edits_from (edit_at ops dims text spans) i (n - i))).last
  pub told :
      SoFar (numbers (execute s₀ (edits_from (edit_at ops dims text spans) 0 n)).replies)
      (numbers (execute s (edits_from (edit_at ops dims text spans) i (n - i))).replies) replies₀ replies (2 * i)

module _ (s₀ : Store) (ops dims text spans replies₀ : List ℕ) (n : ℕ) where
  abbrev edit : ℕ → Edit
  edit = edit_at ops dims text spans

  pub running_start : n ≡ min (length ops / 8) (length replies₀ / 2) → Running s₀ ops dims text spans replies₀ n s₀ replies₀ 0
  running_start e =
      let z : n - 0 ≡ n = omega arith in
      record { count = e; bound = omega arith; last = rw z; told = rw z (begins (numbers (execute s₀ (edits_from edit 0 n)).replies) replies₀) }

  module _ (s : Store) (replies : List ℕ) (i : ℕ) (v : Running s₀ ops dims text spans replies₀ n s replies i) where
    module _ (h : i < n) {s' : Store} {replies' : List ℕ} (m : RunsEdit s (edit_at ops dims text spans i) replies i s' replies') where
      abbrev rest : List Edit
      rest = edits_from edit (i + 1) (n - (i + 1))

      next : edits_from edit i (n - i) ≡ edit i ∷ rest
      unfolding edits_from
      next =
          let e : n - i ≡ suc (n - (i + 1)) = omega arith in
          rw (e, add-one i)

      next_last : (execute s (edit i ∷ rest)).last ≡ (execute s' rest).last
      unfolding execute
      next_last = ap (λ (t : Store). (execute t rest).last) (sym m.left)

      next_told : numbers (execute s (edit i ∷ rest)).replies ≡ numbers_of (reply_of (call s (edit i))) ++ numbers (execute s' rest).replies
      unfolding execute flat_map
      next_told = rw (← m.left)

      pub running_turn : Running s₀ ops dims text spans replies₀ n s' replies' (i + 1)
      running_turn =
          let room : length (numbers (execute s₀ (edits_from edit 0 n)).replies) ≤ length replies₀ =
          omega (arith, length_numbers (edits_from edit 0 n) s₀, length_edits edit 0 n, v.count) in
          record {
            count = v.count;
            bound = omega arith;
            last = v.last ∙ ap (λ (es : List Edit). (execute s es).last) next ∙ next_last;
            told =
                goes_on room (record { is = ap (λ (es : List Edit). numbers (execute s es).replies) next ∙ next_told }) v.told replies' (2 * (i + 1)) m.told
                (omega (arith, two_numbers (reply_of (call s (edit i)))));
          }

module _ (s₀ : Store) (ops dims text spans replies₀ : List ℕ) (n : ℕ) (c : Counts) (blob directory kinds words replies : List ℕ) (i : ℕ) (empty : IsEmpty s₀)
    (v : Running s₀ ops dims text spans replies₀ n (store_with c blob directory kinds words) replies i) (h : n ≤ i) where
  abbrev all : List Edit
  all = edits_from (edit_at ops dims text spans) 0 n

  none : n - i ≡ 0
  none = omega arith

  ran_last : (execute s₀ all).last ≡ store_with c blob directory kinds words
  unfolding execute edits_from
  ran_last = rw none at v.last

  ran_told : replies ≡ over (numbers (execute s₀ all).replies) replies₀
  unfolding execute edits_from flat_map
  ran_told = ends (numbers (execute s₀ all).replies) replies₀ replies (2 * i) (rw none at v.told)

  pub running_last : Ends s₀ (edits_in ops dims text spans (length replies₀)) replies₀ (record { counts = c; edits = n }) blob directory kinds words replies
  running_last = record {
    left = rw (← v.count) (sym ran_last);
    told = rw (← v.count) ran_told;
    count = rw (← v.count) (sym (length_edits (edit_at ops dims text spans) 0 n));
    claim = edits_agree s₀ empty.is (edits_in ops dims text spans (length replies₀));
  }

-- ---- the empty store

empty_metadata : (room : ℕ) → build_metadata 0 room ≡ (check_output 144 room >> ok (file_wrapper 0))
unfolding build_metadata
empty_metadata room = rw (length_file_wrapper 0)

-- what building comes to, with c for 34
module _ (blob : List ℕ) {blob' : List ℕ} where
  built_by : (c : Result (Unit {0})) {n : ℕ} → ok n ≡ map_result length (c >> ok (file_wrapper 0)) → blob' ≡ overwritten (λ x. x) (c >> ok (file_wrapper 0)) blob
      → (c ≡ ok tt) × (blob' ≡ over (file_wrapper 0) blob)
  built_by (ok t) m b = (refl, b)
  built_by (error f) m b = clash cc

  refused_by : (c : Result (Unit {0})) {f : Failure} → error f ≡ map_result length (c >> ok (file_wrapper 0)) → blob' ≡ overwritten (λ x. x) (c >> ok (file_wrapper 0)) blob
      → (c ≡ error f) × (blob' ≡ blob)
  refused_by (error g) m b = (cc, b)
  refused_by (ok t) m b = clash cc

  module _ {n : ℕ} (m : ok n ≡ map_result length (build_metadata 0 (length blob))) (b : blob' ≡ overwritten (λ x. x) (build_metadata 0 (length blob)) blob) (directory kinds words : List ℕ) where
    built : (check_output 144 (length blob) ≡ ok tt) × (blob' ≡ over (file_wrapper 0) blob)
    built = built_by (check_output 144 (length blob)) (rw (empty_metadata (length blob)) at m) (rw (empty_metadata (length blob)) at b)

    pub run_begins : IsEmpty (store_of 0 144 0 blob' directory kinds words)
    unfolding payloads spans_from flat_map
    run_begins =
        let w = file_wrapper 0 in
        rw built.1 (record { is = rw (take_at w (drop (length w) blob) 144 (length_file_wrapper 0), ← length_file_wrapper 0) })

    -- b, d, k and w are what the lent buffers hold after the run
    pub run_done : {es : List Edit} {replies : List ℕ} {ran : Ran} {b' d' k' w' replies' : List ℕ} → Ends (store_of 0 144 0 blob' directory kinds words) es replies ran b' d' k' w' replies'
        → {b d k w : List ℕ} → b ≡ b' → d ≡ d' → k ≡ k' → w ≡ w' → Runs blob directory kinds words es replies (Ok ran) b d k w replies'
    run_done l e f g h = rw (e, f, g, h) (record { reply = sym built.0; leaves = rw built.1 at l })

  pub run_refused : (f : MatError) → error (failure_of f) ≡ map_result length (build_metadata 0 (length blob)) → blob' ≡ overwritten (λ x. x) (build_metadata 0 (length blob)) blob
      → (directory kinds words : List ℕ) (es : List Edit) (replies : List ℕ) (r : Reply Ran MatError) → IsErr r × IsErrAnd r (λ y. y ≡ f)
      → Runs blob directory kinds words es replies r blob' directory kinds words replies
  run_refused f m b directory kinds words es replies r p =
      let k = refused_by (check_output 144 (length blob)) (rw (empty_metadata (length blob)) at m) (rw (empty_metadata (length blob)) at b) in
      subst (λ (x : Reply Ran MatError). Runs blob directory kinds words es replies x blob' directory kinds words replies) (sym (err_is r f p))
      (record {
        reply = sym k.0;
        leaves = record { same_blob = k.1; same_directory = refl; same_kinds = refl; same_words = refl; same_replies = refl };
      })
