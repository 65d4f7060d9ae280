-- The serialization of accepted arrays: what its cells hold, that it is canonical, how long its parts are, and what each object reads as.
-- Assumes nothing.
use Prim.Native.Nat.{ℕ, zero, suc, ◌+◌, ◌-◌, ◌*◌, ◌≤◌, ◌<◌}
use mathlib.Core.Path.{◌≡◌, refl, sym, ap, ap₂, ◌∙◌}
use mathlib.Core.Bool.{Bool, true, ◌&&◌}
use mathlib.Core.List.{List, [], ◌∷◌, ◌++◌, map, flat_map, append-nil}
use native.Mathlib.Omega.{arith}
use borrow.Author.Tests.{le-leb, eq-eqb}
use lib.ListN.{length, get_or, drop, set, length-append}
use lib.Seq.{take_at, drop-cons, drop-length}
use Rattle.text.specs.Buffer.{same}
use Rattle.text.specs.Result.{Result, ok, is_ok, values_of}
use Rattle.text.proofs.SameLaws.{same_refl}
use Rattle.writer.specs.Array.{Array, no_array, Accepted, payload, string_words, payloads, payload_spans}
use Rattle.writer.specs.Spans.{length_at, strings_from, joined, spans_from}
use Rattle.writer.proofs.LayoutLaws.{payload_at}
use Rattle.reader.specs.Names.{ShownText}
use Rattle.reader.specs.Queries.{into_output, into_text}
use Rattle.reader.specs.Saveobj.{decode_payload, decoded_array, is_canonical_payload, into_strings}
use Rattle.reader.proofs.BuiltLaws.{built_class, built_properties, built_name}
use Rattle.reader.proofs.ReadBack.{accepted_decodes, canonical_first, canonical_second}
use Rattle.store.specs.Store.{Store, serialize, cells, stored_arrays, every, same_store, is_canonical}
use Rattle.store.specs.Model.{ReadsBack}

-- each of a list of arrays is accepted by writing
abbrev pub AllAccepted : List Array → Type 0
AllAccepted xs = (i : ℕ) → i < length xs → Accepted (get_or xs i no_array)

pub both : (s t : Bool) → s ≡ true → t ≡ true → (s && t) ≡ true
both s t e f = rw (e, f)

-- ---- one array

module _ {a : Array} (w : Accepted a) where
  decoded_payload : decoded_array (payload a) ≡ a
  unfolding payload
  decoded_payload =
      ap₂ (λ (d : List ℕ) (ss : List (List ℕ)). record { dims = d; strings = ss }) (take_at a.dims (string_words a.strings) (length a.dims) refl)
      (ap values_of (accepted_decodes w))

  canonical_payload : is_canonical_payload (payload a) ≡ true
  unfolding is_canonical_payload
  canonical_payload =
      both (is_ok (decode_payload (payload a))) (same (payload (decoded_array (payload a))) (payload a)) (ap is_ok (accepted_decodes w))
      (ap (λ (b : Array). same (payload b) (payload a)) decoded_payload ∙ same_refl (payload a))

-- ---- the cells of a serialization

cells_from : (xs : List Array) (k i : ℕ) → i + k ≡ length xs → strings_from (payloads xs) (payload_spans 0 xs) i k ≡ map payload (drop i xs)
unfolding strings_from
cells_from xs zero i e =
    let z : i ≡ length xs = omega arith in
    rw z (ap (map payload) (sym (drop-length xs)))
cells_from xs (suc k) i e =
    let h : i < length xs = omega arith in
    rw (drop-cons xs i no_array h, payload_at xs i h)
    (ap (λ (r : List (List ℕ)). payload (get_or xs i no_array) ∷ r) (cells_from xs k (suc i) (omega arith)))

pub cells_are : (xs : List Array) → cells (serialize xs) ≡ map payload xs
cells_are xs = cells_from xs (length xs) 0 (omega arith)

decoded_all : (xs : List Array) → AllAccepted xs → map decoded_array (map payload xs) ≡ xs
decoded_all [] f = refl
decoded_all (a ∷ xs) f = ap₂ (λ (b : Array) (ys : List Array). b ∷ ys) (decoded_payload (f 0 (omega arith))) (decoded_all xs (λ i h. f (suc i) (omega arith)))

canonical_all : (xs : List Array) → AllAccepted xs → every is_canonical_payload (map payload xs) ≡ true
canonical_all [] f = refl
canonical_all (a ∷ xs) f =
    both (is_canonical_payload (payload a)) (every is_canonical_payload (map payload xs)) (canonical_payload (f 0 (omega arith)))
    (canonical_all xs (λ i h. f (suc i) (omega arith)))

pub same_store_refl : (s : Store) → same_store s s ≡ true
same_store_refl s = simp (eq-eqb s.objects s.objects refl, eq-eqb s.blob_bytes s.blob_bytes refl, eq-eqb s.used_words s.used_words refl, same_refl)

module _ (xs : List Array) (f : AllAccepted xs) where
  pub stored_are : stored_arrays (serialize xs) ≡ xs
  stored_are = ap (map decoded_array) (cells_are xs) ∙ decoded_all xs f

  pub serialized_canonical : is_canonical (serialize xs) ≡ true
  unfolding is_canonical
  serialized_canonical =
      both (every is_canonical_payload (cells (serialize xs))) (same_store (serialize xs) (serialize (stored_arrays (serialize xs))))
      (ap (every is_canonical_payload) (cells_are xs) ∙ canonical_all xs f)
      (ap (λ (ys : List Array). same_store (serialize xs) (serialize ys)) stored_are ∙ same_store_refl (serialize xs))

-- ---- lengths, and arrays added or put in place of another

pub length_payloads_last : (xs : List Array) (a : Array) → length (payloads (xs ++ a ∷ [])) ≡ length (payloads xs) + length (payload a)
unfolding payloads flat_map
length_payloads_last [] a = omega (arith, ap length (append-nil (payload a)))
length_payloads_last (x ∷ xs) a =
    omega (arith, length-append (payload x) (payloads (xs ++ a ∷ [])), length-append (payload x) (payloads xs), length_payloads_last xs a)

pub length_payloads_set : (xs : List Array) (k : ℕ) (a : Array) → k < length xs
    → length (payloads (set xs k a)) + length (payload (get_or xs k no_array)) ≡ length (payloads xs) + length (payload a)
unfolding payloads flat_map
length_payloads_set [] k a h = absurd (omega arith)
length_payloads_set (x ∷ xs) zero a h = omega (arith, length-append (payload a) (payloads xs), length-append (payload x) (payloads xs))
length_payloads_set (x ∷ xs) (suc k) a h =
    omega (arith, length-append (payload x) (payloads (set xs k a)), length-append (payload x) (payloads xs), length_payloads_set xs k a (omega arith))

pub length_payload_nth : (xs : List Array) (k : ℕ) → k < length xs → length (payload (get_or xs k no_array)) ≤ length (payloads xs)
unfolding payloads flat_map
length_payload_nth [] k h = absurd (omega arith)
length_payload_nth (x ∷ xs) zero h = omega (arith, length-append (payload x) (payloads xs))
length_payload_nth (x ∷ xs) (suc k) h = omega (arith, length-append (payload x) (payloads xs), length_payload_nth xs k (omega arith))

pub span_length : (o : ℕ) (xs : List Array) (k : ℕ) → k < length xs → length_at (payload_spans o xs) k ≡ length (payload (get_or xs k no_array))
unfolding spans_from
span_length o [] k h = absurd (omega arith)
span_length o (x ∷ xs) zero h = refl
span_length o (x ∷ xs) (suc k) h =
    let m : 2 * suc k + 1 ≡ suc (suc (2 * k + 1)) = omega arith in
    rw m (span_length (o + length (payload x)) xs k (omega arith))

pub accepted_last : (xs : List Array) {a : Array} → AllAccepted xs → Accepted a → AllAccepted (xs ++ a ∷ [])
accepted_last [] f w zero h = w
accepted_last [] f w (suc i) h = absurd (omega arith)
accepted_last (x ∷ xs) f w zero h = f 0 (omega arith)
accepted_last (x ∷ xs) f w (suc i) h = accepted_last xs (λ j g. f (suc j) (omega arith)) w i (omega arith)

pub accepted_set : (xs : List Array) (k : ℕ) {a : Array} → AllAccepted xs → Accepted a → AllAccepted (set xs k a)
accepted_set [] k f w i h = absurd (omega arith)
accepted_set (x ∷ xs) zero f w zero h = w
accepted_set (x ∷ xs) zero f w (suc i) h = f (suc i) (omega arith)
accepted_set (x ∷ xs) (suc k) f w zero h = f 0 (omega arith)
accepted_set (x ∷ xs) (suc k) f w (suc i) h = accepted_set xs k (λ j g. f (suc j) (omega arith)) w i (omega arith)

-- ---- reading

-- 34 passes in outputs that are long enough
output_fits : {A : Type 0} (m : Result (List A)) {out : List A} (room : ℕ) → m ≡ ok out → length out ≤ room → into_output m room ≡ ok out
output_fits m {out} room e h = rw e (simp (le-leb (length out) room h))

text_fits : (m : Result ShownText) {t : ShownText} (room : ℕ) → m ≡ ok t → length t.text ≤ room → into_text m room ≡ ok t
text_fits m {t} room e h = rw e (simp (le-leb (length t.text) room h))

strings_fit : (m : Result (List (List ℕ))) {ss : List (List ℕ)} (text_room span_room : ℕ) → m ≡ ok ss → length (joined ss) ≤ text_room → 2 * length ss ≤ span_room
    → into_strings m text_room span_room ≡ ok ss
strings_fit m {ss} text_room span_room e h k = rw e (simp (le-leb (length (joined ss)) text_room h, le-leb (2 * length ss) span_room k))

pub reads_back : (xs : List Array) → length xs ≤ 349522 → AllAccepted xs → (id : ℕ) → 1 ≤ id → id ≤ length xs
    → ReadsBack (serialize xs) id (get_or xs (id - 1) no_array)
reads_back xs few f id least most =
    let n = length xs in
    let w = f (id - 1) (omega arith) in
    record {
      class = λ room h. text_fits _ room (built_class n few id least most) h;
      property = λ room h. output_fits _ room (built_properties n few id least most) h;
      name = λ room h. text_fits _ room (built_name n few) h;
      by_metadata = λ metadata e one is text_room span_room h k. strings_fit _ text_room span_room (canonical_first xs few id least most w metadata e one is) h k;
      by_property = λ text_room span_room h k. strings_fit _ text_room span_room (canonical_second xs few id least most w) h k;
    }
