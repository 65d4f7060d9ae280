-- An edit by its kind: its checks in turn, and what is there after it.
-- Assumes nothing.
use Prim.Native.Nat.{ℕ, ◌+◌, ◌-◌, ◌≤◌, ◌<◌}
use mathlib.Core.Path.{◌≡◌, refl, ap, ◌∙◌}
use mathlib.Core.List.{List, [], ◌∷◌}
use native.Mathlib.Omega.{arith}
use borrow.Author.Tests.{leb-true}
use lib.Dec.{leb}
use lib.ListN.{length, get_or, length-append, length-set}
use Rattle.text.specs.Result.{Result, ok, error, check, ◌>>◌, ◌>>=◌}
use Rattle.text.proofs.ResultLaws.{check_is, check_passed}
use Rattle.writer.specs.Array.{Array, no_array, payload, array_of, payloads}
use Rattle.writer.specs.Spans.{length_at}
use Rattle.store.specs.declared.edits.Edit.{Edit as Kind}
use Rattle.store.specs.declared.edits.Edit.TheVariants as kind
use Rattle.store.specs.Store.{Store, lengths_of, serialize, counted, stored_arrays}
use Rattle.store.specs.Edits.{check_store, check_object_count, check_room, check_append, appended, check_replace, words_after, replaced}
use Rattle.store.specs.Model.{call}
use Rattle.store.specs.Replies.{edit_of}
use Rattle.store.specs.Stages.{check_id, IdInside, objects_after, words_with, arrays_after}
use Rattle.store.proofs.ShiftLaws.{counted_length}
use Rattle.store.proofs.StoreLaws.{span_length, length_payload_nth, length_payloads_last, length_payloads_set}

pub id_inside : (n : ℕ) (k : Kind) {u : Unit {0}} → check_id n k ≡ ok u → IdInside n k
id_inside n kind.Append e = tt
id_inside n (kind.Replace id) e =
    let p = check_passed 8 (leb 1 id) id _ e in
    (leb-true 1 id p.0, leb-true id n (check_is 8 (leb id n) id p.1))

-- ---- the checks in turn

append_flat : {A B : Type 0} (m : Result (Unit {0})) (q : Result A) (g : Result (Unit {0})) (f : A → Result B)
    → ((m >> (q >>= λ a. g >> ok a)) >>= f) ≡ (m >> (q >>= λ a. g >> f a))
append_flat (error e) q g f = refl
append_flat (ok t) (error e) g f = refl
append_flat (ok t) (ok a) (error e) f = refl
append_flat (ok t) (ok a) (ok u) f = refl

replace_flat : {A B : Type 0} (m n p : Result (Unit {0})) (q : Result A) (g : Result (Unit {0})) (f : A → Result B)
    → ((m >> (n >> (p >> (q >>= λ a. g >> ok a)))) >>= f) ≡ (m >> ((n >> p) >> (q >>= λ a. g >> f a)))
replace_flat (error e) n p q g f = refl
replace_flat (ok t) (error e) p q g f = refl
replace_flat (ok t) (ok u) p q g f = append_flat p q g f

-- the words after an edit, as its definition has them
pub words_of : Store → Kind → Array → ℕ
words_of s kind.Append a = s.used_words + length (payload a)
words_of s (kind.Replace id) a = words_after s id a

-- 32 and 34, with the array that an edit puts
abbrev pub rest : Store → Kind → Array → Result (List Array)
rest s k a =
    check_object_count (objects_after s.objects k)
    >> (check_room (lengths_of s) (objects_after s.objects k) (words_of s k a) >> ok (arrays_after (stored_arrays (counted s)) k a))

pub call_is : (s : Store) (k : Kind) (dims text spans : List ℕ)
    → call s (edit_of k dims text spans) ≡ (check_store s >> (check_id s.objects k >> (array_of dims text spans >>= rest s k)))
unfolding call appended check_append replaced check_replace words_of
call_is s kind.Append dims text spans = append_flat (check_store s) (array_of dims text spans) (check_object_count (s.objects + 1)) _
call_is s (kind.Replace id) dims text spans =
    replace_flat (check_store s) (check 8 (leb 1 id) id) (check 8 (leb id s.objects) id) (array_of dims text spans) (check_object_count s.objects) _

-- ---- a store that holds xs

pub length_after : (xs : List Array) (k : Kind) (a : Array) → length (arrays_after xs k a) ≡ objects_after (length xs) k
length_after xs kind.Append a = omega (arith, length-append xs (a ∷ []))
length_after xs (kind.Replace id) a = length-set xs (id - 1) a

module _ (s : Store) (xs : List Array) (is : counted s ≡ serialize xs) where
  used_are : s.used_words ≡ length (payloads xs)
  used_are = ap (λ (t : Store). t.used_words) is

  objects_are : s.objects ≡ length xs
  objects_are = ap (λ (t : Store). t.objects) is

  -- the length of a cell, in the counted part and in the buffer
  module _ (id : ℕ) (i : IdInside s.objects (kind.Replace id)) where
    abbrev old : ℕ
    old = length (payload (get_or xs (id - 1) no_array))

    there : id - 1 < length xs
    there = omega (arith, objects_are, i.0, i.1)

    old_counted : length_at (counted s).directory (id - 1) ≡ old
    old_counted = ap (λ (t : Store). length_at t.directory (id - 1)) is ∙ span_length 0 xs (id - 1) there

    pub old_is : length_at s.directory (id - 1) ≡ old
    old_is = counted_length s.directory s.objects xs (ap (λ (t : Store). t.directory) is) (id - 1) (omega (arith, i.0, i.1)) ∙ span_length 0 xs (id - 1) there

    pub old_within : length_at s.directory (id - 1) ≤ s.used_words
    old_within = omega (arith, old_is, used_are, length_payload_nth xs (id - 1) there)

  pub words_of_are : (k : Kind) → IdInside s.objects k → (a : Array) → words_of s k a ≡ length (payloads (arrays_after xs k a))
  unfolding words_of
  words_of_are kind.Append i a = omega (arith, used_are, length_payloads_last xs a)
  words_of_are (kind.Replace id) i a =
      omega (arith, used_are, old_counted id i, length_payloads_set xs (id - 1) a (there id i), length_payload_nth xs (id - 1) (there id i))

  pub words_with_are : (k : Kind) → IdInside s.objects k → (a : Array) → words_with s k (length (payload a)) ≡ length (payloads (arrays_after xs k a))
  words_with_are kind.Append i a = omega (arith, used_are, length_payloads_last xs a)
  words_with_are (kind.Replace id) i a =
      omega (arith, used_are, old_is id i, length_payloads_set xs (id - 1) a (there id i), length_payload_nth xs (id - 1) (there id i))
