-- A well-formed name heap is cut into well-formed names.
-- Assumes nothing.
use mathlib.Core.Path.{◌≡◌, refl, sym, ap, ◌∙◌}
use mathlib.Core.List.{List, [], ◌∷◌, ◌++◌, map}
use Rattle.std.specs.Prelude.{Some}
use Prim.Native.Nat.{ℕ, zero, suc, ◌-◌, ◌≤◌}
use native.Mathlib.Omega.{arith}
use borrow.Author.Tests.{ne_eqb}
use lib.ListN.{length, get_or, drop}
use lib.Seq.{drop-cons}
use Rattle.text.specs.Unicode.{utf8, utf8s}
use Rattle.text.specs.Utf8.{scalars8}
use Rattle.text.proofs.ScalarLaws.{Scalars, Without, utf8_1, utf8_non_zero, utf8s_nil, utf8s_cons}
use Rattle.text.proofs.TestLaws.{equal_or}
use Rattle.text.proofs.Utf8Laws.{scalars8_utf8s, scalars8_empty, spelled}
use Rattle.text.proofs.utf8.Lossy.{sound_replaced}
use Rattle.reader.specs.Names.{onto, pieces, heap_of, name_bytes, shown_name}
use Rattle.reader.proofs.names.Pieces.{pieces_some, pieces_zero, pieces_byte}

-- ---- cutting and encoding change places

-- bytes before the first piece
abbrev ahead : List ℕ → List (List ℕ) → List (List ℕ)
ahead xs ps = (xs ++ get_or ps 0 []) ∷ drop 1 ps

pieces_ahead : (xs ys : List ℕ) → Without 0 xs → pieces (xs ++ ys) ≡ ahead xs (pieces ys)
pieces_ahead [] ys n = drop-cons (pieces ys) 0 [] (pieces_some ys)
pieces_ahead (x ∷ xs) ys n = pieces_byte x (xs ++ ys) n.0 ∙ ap (onto x) (pieces_ahead xs ys n.1)

encode_onto : (v : ℕ) (ps : List (List ℕ)) → 1 ≤ length ps → ahead (utf8 v) (map utf8s ps) ≡ map utf8s (onto v ps)
encode_onto v [] h = absurd (omega arith)
encode_onto v (p ∷ ps) h = ap (λ (s : List ℕ). s ∷ map utf8s ps) (sym (utf8s_cons v p))

pieces_utf8s : (vs : List ℕ) → pieces (utf8s vs) ≡ map utf8s (pieces vs)
unfolding pieces
pieces_utf8s [] = ap pieces utf8s_nil ∙ ap (λ (s : List ℕ). s ∷ []) (sym utf8s_nil)
pieces_utf8s (v ∷ vs) =
    equal_or v 0
    (λ z. ap pieces (utf8s_cons v vs)
    ∙ ap (λ (s : List ℕ). pieces (s ++ utf8s vs)) (utf8_1 v (omega arith))
    ∙ pieces_zero v (utf8s vs) z
    ∙ ap (λ (ps : List (List ℕ)). [] ∷ ps) (pieces_utf8s vs)
    ∙ ap (λ (s : List ℕ). s ∷ map utf8s (pieces vs)) (sym utf8s_nil)
    ∙ ap (map utf8s) (sym (pieces_zero v vs z)))
    (λ n. ap pieces (utf8s_cons v vs)
    ∙ pieces_ahead (utf8 v) (utf8s vs) (utf8_non_zero v n)
    ∙ ap (ahead (utf8 v)) (pieces_utf8s vs)
    ∙ encode_onto v (pieces vs) (pieces_some vs)
    ∙ ap (map utf8s) (sym (pieces_byte v vs n)))

-- ---- a piece of a well-formed text

scalars_onto : (v : ℕ) (ps : List (List ℕ)) (k : ℕ) → 1 ≤ length ps → Scalars (v ∷ []) → ((j : ℕ) → Scalars (get_or ps j [])) → Scalars (get_or (onto v ps) k [])
scalars_onto v [] k h s each = absurd (omega arith)
scalars_onto v (p ∷ ps) zero h s each = (s.0, each 0)
scalars_onto v (p ∷ ps) (suc k) h s each = each (suc k)

scalars_after : (ps : List (List ℕ)) (k : ℕ) → ((j : ℕ) → Scalars (get_or ps j [])) → Scalars (get_or ([] ∷ ps) k [])
scalars_after ps zero each = tt
scalars_after ps (suc k) each = each k

scalars_pieces : (vs : List ℕ) → Scalars vs → (k : ℕ) → Scalars (get_or (pieces vs) k [])
unfolding pieces
scalars_pieces [] h zero = tt
scalars_pieces [] h (suc k) = tt
scalars_pieces (v ∷ vs) h k =
    equal_or v 0
    (λ z. rw (pieces_zero v vs z) (scalars_after (pieces vs) k (scalars_pieces vs h.1)))
    (λ n. rw (pieces_byte v vs n) (scalars_onto v (pieces vs) k (pieces_some vs) (h.0, tt) (scalars_pieces vs h.1)))

get_d_encoded : (ps : List (List ℕ)) (k : ℕ) → get_or (map utf8s ps) k [] ≡ utf8s (get_or ps k [])
get_d_encoded [] k = sym utf8s_nil
get_d_encoded (p ∷ ps) zero = refl
get_d_encoded (p ∷ ps) (suc k) = get_d_encoded ps k

pub sound_piece : (s : List ℕ) {vs : List ℕ} → scalars8 s ≡ Some vs → (k : ℕ) → scalars8 (get_or (pieces s) k []) ≡ Some (get_or (pieces vs) k [])
sound_piece s {vs} e k =
    let t = spelled s e in
    ap (λ (x : List ℕ). scalars8 (get_or (pieces x) k [])) t.bytes
    ∙ ap (λ (ps : List (List ℕ)). scalars8 (get_or ps k [])) (pieces_utf8s vs)
    ∙ ap scalars8 (get_d_encoded (pieces vs) k)
    ∙ scalars8_utf8s (get_or (pieces vs) k []) (scalars_pieces vs t.scalars k)

-- ---- a name of a well-formed heap

pub empty_sound : (b : List ℕ) (end : ℕ) → (shown_name b end 0).replaced ≡ 0
unfolding name_bytes
empty_sound b end = sound_replaced [] scalars8_empty

pub name_sound : (b : List ℕ) (end : ℕ) {vs : List ℕ} → scalars8 (heap_of b end) ≡ Some vs → (i : ℕ) → (shown_name b end i).replaced ≡ 0
unfolding name_bytes
name_sound b end e i =
    equal_or i 0
    (λ z. rw z (empty_sound b end))
    (λ n. simp (ne_eqb i 0 n) (sound_replaced (get_or (pieces (heap_of b end)) (i - 1) []) (sound_piece (heap_of b end) e (i - 1))))
