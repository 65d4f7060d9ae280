-- ISO 8859-15: no two bytes share a code point, which code points have a byte, and that export and import undo each other.
-- Assumes nothing.
use Rattle.std.specs.Option.{unwrap_or}
use mathlib.Core.Path.{◌≡◌, refl, ◌∙◌, sym, ap, ap₂}
use mathlib.Core.Bool.{cond}
use mathlib.Core.List.{List, [], ◌∷◌, ◌++◌, map}
use Rattle.std.specs.Prelude.{Option, Some, None, Ok}
use Rattle.std.proofs.lemmas.Option.{same_Some}
use Prim.Native.Nat.{ℕ, zero, suc, ◌+◌, ◌≤◌, ◌<◌}
use native.Mathlib.Omega.{arith}
use borrow.Author.Tests.{le-leb, eqb-true}
use lib.Dec.{eqb}
use lib.ListN.{length, get_or, length-append}
use Rattle.text.specs.Latin9.{Exception, exceptions, point_in, code_point, byte_from, byte_of, bytes_from, latin9_bytes, export_latin9, latin9_text, import_latin9}
use Rattle.text.specs.Stages.Latin9.{IsTable}
use Rattle.text.specs.Result.{ok, or_error, map_result, check_output, ◌>>◌, ◌>>=◌}
use Rattle.text.specs.Replies.{outcome}
use Rattle.text.specs.Unicode.{Below, utf8, utf8s}
use Rattle.text.specs.Utf8.{scalars8}
use Rattle.text.proofs.AsciiLaws.{below_more}
use Rattle.text.proofs.ByteLaws.{size_2, size_3, size_4}
use Rattle.text.proofs.ResultLaws.{same_value, seq_passed, bind_passed, or_error_passed}
use Rattle.text.proofs.ScalarLaws.{Scalars, gap_below, utf8_1, by_size, lengths, utf8s_nil, utf8s_cons}
use Rattle.text.proofs.TestLaws.{either, agree, under, listed, listed_at}
use Rattle.text.proofs.Utf8Laws.{not_some, scalars8_utf8s, spelled}

-- ---- the rule by cases, in its order

pub point_cases : (b : ℕ)
    → code_point b
    ≡ cond (eqb b 0xA4) 0x20AC
    (cond (eqb b 0xA6) 0x0160
    (cond (eqb b 0xA8) 0x0161
    (cond (eqb b 0xB4) 0x017D (cond (eqb b 0xB8) 0x017E (cond (eqb b 0xBC) 0x0152 (cond (eqb b 0xBD) 0x0153 (cond (eqb b 0xBE) 0x0178 b)))))))
unfolding code_point point_in exceptions
point_cases b = refl

-- a table that is the rule's values, one by one
pub table_is : (points : List ℕ) → points ≡ listed code_point 0 256 → IsTable points
table_is points e = record { size = ap length e; point = λ b h. ap (λ (l : List ℕ). get_or l b 0) e ∙ listed_at code_point 256 b h }

-- ---- a byte leads to its code point and back, by one test over the 256

back_number : (b : ℕ) → b < 256 → unwrap_or (byte_of (code_point b)) 256 ≡ b
unfolding byte_of byte_from code_point point_in exceptions
back_number b h = agree (λ k. unwrap_or (byte_of (code_point k)) 256) (λ k. k) 256 tt b h

some_of : (m : Option ℕ) (d b : ℕ) → unwrap_or m d ≡ b → b < d → m ≡ Some b
some_of (Some x) d b e h = ap Some e
some_of None d b e h = absurd (omega arith)

pub byte_back : (b : ℕ) → b < 256 → byte_of (code_point b) ≡ Some b
byte_back b h = some_of (byte_of (code_point b)) 256 b (back_number b h) h

-- "No two bytes share a code point."
pub distinct : (a b : ℕ) → a < 256 → b < 256 → code_point a ≡ code_point b → a ≡ b
distinct a b h k e = same_Some a b (sym (byte_back a h) ∙ ap byte_of e ∙ byte_back b k)

pub point_top : (b : ℕ) → b < 256 → code_point b < 0x3000
unfolding code_point point_in exceptions
point_top b h = under code_point 0x3000 256 tt b h

pub ascii_point : (b : ℕ) → b < 128 → code_point b ≡ b
unfolding code_point point_in exceptions
ascii_point b h = agree code_point (λ k. k) 128 tt b h

-- ---- a character's byte has its code point

from_is : (n v i : ℕ) {b : ℕ} → byte_from v i n ≡ Some b → (b < i + n) × (code_point b ≡ v)
unfolding byte_from
from_is zero v i e = not_some e
from_is (suc n) v i {b} e =
    either (eqb (code_point i) v)
    (λ t. let z : i ≡ b = same_Some i b (simp t at e) in
    (omega arith, ap code_point (sym z) ∙ eqb-true (code_point i) v t))
    (λ t. let r = from_is n v (suc i) (simp t at e) in
    (omega (arith, r.0), r.1))

pub byte_is : {v b : ℕ} → byte_of v ≡ Some b → (b < 256) × (code_point b ≡ v)
unfolding byte_of
byte_is {v} e = from_is 256 v 0 e

-- ---- characters that have none

-- v is none of the code points that are listed
abbrev pub Unlisted : ℕ → List Exception → Type 0
Unlisted v [] = Unit
Unlisted v (e ∷ es) = (v ≡ e.point → ⊥) × Unlisted v es

own_point : (es : List Exception) (b v : ℕ) → Unlisted v es → point_in es b ≡ v → b ≡ v
unfolding point_in
own_point [] b v n e = e
own_point (x ∷ es) b v n e =
    either (eqb b x.byte) (λ t. absurd (n.0 (sym (simp t at e)))) (λ t. own_point es b v n.1 (simp t at e))

-- a code point that is not listed has its own byte or none
unlisted_none : (v : ℕ) → Unlisted v exceptions → (v < 256 → code_point v ≡ v → ⊥) → byte_of v ≡ None
unfolding code_point
unlisted_none v u n = by (byte_of v) refl
  where
    by : (m : Option ℕ) → byte_of v ≡ m → m ≡ None
    by None e = refl
    by (Some b) e =
        let p = byte_is e in
        let z : b ≡ v = own_point exceptions b v u p.1 in
        absurd (n (omega (arith, p.0)) (rw z at p.1))

pub high_none : (v : ℕ) → 256 ≤ v → Unlisted v exceptions → None ≡ byte_of v
high_none v h u = sym (unlisted_none v u (λ l _. omega arith))

pub far_none : (v : ℕ) → 0x3000 ≤ v → None ≡ byte_of v
far_none v h = by (byte_of v) refl
  where
    by : (m : Option ℕ) → byte_of v ≡ m → None ≡ m
    by None e = refl
    by (Some b) e = let p = byte_is e in absurd (omega (arith, p.1, point_top b p.0))

unlisted_low : (v : ℕ) → v < 256 → Unlisted v exceptions
unfolding exceptions
unlisted_low v h =
    ((λ e. omega arith), ((λ e. omega arith), ((λ e. omega arith), ((λ e. omega arith), ((λ e. omega arith), ((λ e. omega arith), ((λ e. omega arith), ((λ e. omega arith), tt))))))))

-- a byte's number that is not its code point is nobody's
pub gave_way : (v : ℕ) → v < 256 → (code_point v ≡ v → ⊥) → byte_of v ≡ None
gave_way v h n = unlisted_none v (unlisted_low v h) (λ _ e. n e)

-- the eight that gave way: A4, A6, A8, B4, B8, BC, BD, BE
pub eight_gave_way : map byte_of (0xA4 ∷ 0xA6 ∷ 0xA8 ∷ 0xB4 ∷ 0xB8 ∷ 0xBC ∷ 0xBD ∷ 0xBE ∷ []) ≡ None ∷ None ∷ None ∷ None ∷ None ∷ None ∷ None ∷ None ∷ []
unfolding byte_of byte_from code_point point_in exceptions
eight_gave_way = refl

-- a code point below 0x100 is that of the byte with its number
low_own : (b : ℕ) → code_point b < 256 → code_point b ≡ b
unfolding code_point
low_own b h = sym (own_point exceptions b (code_point b) (unlisted_low (code_point b) h) refl)

-- ---- over a whole text

bytes_of_points : (i : ℕ) (bs : List ℕ) → Below 256 bs → bytes_from i (map code_point bs) ≡ ok bs
unfolding bytes_from
bytes_of_points i [] h = refl
bytes_of_points i (b ∷ bs) h = rw (byte_back b h.0, bytes_of_points (suc i) bs h.1)

points_of_bytes : (i : ℕ) (vs : List ℕ) {bs : List ℕ} → bytes_from i vs ≡ ok bs → map code_point bs ≡ vs
unfolding bytes_from
points_of_bytes i [] e = ap (map code_point) (sym (same_value e))
points_of_bytes i (v ∷ vs) e =
    let p = bind_passed (or_error (record { number = 36; place = i }) (byte_of v)) (λ b. bytes_from (suc i) vs >>= λ bs. ok (b ∷ bs)) e in
    let q = bind_passed (bytes_from (suc i) vs) (λ bs. ok (p.0 ∷ bs)) p.1.1 in
    let b = byte_is (or_error_passed (record { number = 36; place = i }) (byte_of v) p.1.0) in
    ap (map code_point) (sym (same_value q.1.1)) ∙ ap₂ ◌∷◌ b.1 (points_of_bytes (suc i) vs q.1.0)

points_scalars : (bs : List ℕ) → Below 256 bs → Scalars (map code_point bs)
points_scalars [] h = tt
points_scalars (b ∷ bs) h =
    let t = point_top b h.0 in
    (record { top = omega arith; gap = gap_below (code_point b) (omega arith) }, points_scalars bs h.1)

-- an export that is accepted took the text of its bytes
pub exported_text : (t : List ℕ) {bs : List ℕ} → latin9_bytes t ≡ ok bs → t ≡ latin9_text bs
unfolding latin9_bytes
exported_text t {bs} e =
    let p = bind_passed (or_error (record { number = 30; place = 0 }) (scalars8 t)) (bytes_from 0) e in
    let s = spelled t (or_error_passed (record { number = 30; place = 0 }) (scalars8 t) p.1.0) in
    s.bytes ∙ ap utf8s (sym (points_of_bytes 0 p.0 p.1.1))

-- "Export, then import, gives the text back": of every text that is accepted, into any output that is long enough
pub export_import : (t : List ℕ) (room : ℕ) {bs : List ℕ} → export_latin9 t room ≡ ok bs → (room' : ℕ) → length t ≤ room' → import_latin9 bs room' ≡ ok t
unfolding export_latin9 import_latin9
export_import t room {bs} e room' h =
    let p = bind_passed (latin9_bytes t) (λ b. check_output (length b) room >> ok b) e in
    let q = seq_passed (check_output (length p.0) room) (ok p.0) p.1.1 in
    let z : latin9_bytes t ≡ ok bs = p.1.0 ∙ q.1.1 in
    let s = exported_text t z in
    rw (← s) (simp (le-leb (length t) room' h))

imported_bytes : (bs : List ℕ) → Below 256 bs → latin9_bytes (latin9_text bs) ≡ ok bs
unfolding latin9_bytes
imported_bytes bs h = simp (scalars8_utf8s (map code_point bs) (points_scalars bs h), bytes_of_points 0 bs h)

-- import, then export, gives the bytes back
pub import_export : (bs : List ℕ) → Below 256 bs → (room : ℕ) → length bs ≤ room → export_latin9 (latin9_text bs) room ≡ ok bs
unfolding export_latin9
import_export bs h room l = rw (imported_bytes bs h) (simp (le-leb (length bs) room l))

-- ---- bytes that have a byte each in UTF-8 are their own text

size_least : (v : ℕ) → 1 ≤ length (utf8 v)
size_least v = let l = lengths v in omega (arith, l.least, l.units)

one_byte : (b : ℕ) → length (utf8 (code_point b)) ≡ 1 → utf8 (code_point b) ≡ b ∷ []
one_byte b e =
    by_size (code_point b) (λ h. utf8_1 (code_point b) h ∙ ap (λ (x : ℕ). x ∷ []) (low_own b (omega arith)))
    (λ l h. absurd (omega (arith, size_2 (code_point b) l h)))
    (λ l h. absurd (omega (arith, size_3 (code_point b) l h)))
    (λ l. absurd (omega (arith, size_4 (code_point b) l)))

pub text_length_lem : (b : ℕ) (bs : List ℕ) → length (latin9_text (b ∷ bs)) ≡ length (utf8 (code_point b)) + length (latin9_text bs)
text_length_lem b bs = ap length (utf8s_cons (code_point b) (map code_point bs)) ∙ length-append (utf8 (code_point b)) (latin9_text bs)

text_least : (bs : List ℕ) → length bs ≤ length (latin9_text bs)
text_least [] = omega arith
text_least (b ∷ bs) = omega (arith, size_least (code_point b), text_least bs, text_length_lem b bs)

pub own_text : (bs : List ℕ) → length (latin9_text bs) ≡ length bs → latin9_text bs ≡ bs
own_text [] e = utf8s_nil
own_text (b ∷ bs) e =
    let l = text_length_lem b bs in
    let s = size_least (code_point b) in
    let t = text_least bs in
    utf8s_cons (code_point b) (map code_point bs) ∙ ap₂ ◌++◌ (one_byte b (omega arith)) (own_text bs (omega arith))

-- ---- ASCII is its own text both ways

ascii_text : (bs : List ℕ) → Below 128 bs → latin9_text bs ≡ bs
ascii_text [] h = utf8s_nil
ascii_text (b ∷ bs) h =
    utf8s_cons (code_point b) (map code_point bs) ∙ ap₂ ◌++◌ (ap utf8 (ascii_point b h.0) ∙ utf8_1 b h.0) (ascii_text bs h.1)

module _ (bs : List ℕ) {high : ℕ} (p : Below (high + 1) bs) (h : high < 0x80) where
  below : Below 128 bs
  below = below_more (high + 1) 128 bs (omega arith) p

  pub ascii_import : length bs + 0 ≡ length (latin9_text bs)
  ascii_import = omega (arith, ap length (ascii_text bs below))

  pub ascii_export : outcome (Ok (length bs)) ≡ map_result length (latin9_bytes bs)
  ascii_export =
      sym (ap (map_result length) (ap latin9_bytes (sym (ascii_text bs below)) ∙ imported_bytes bs (below_more (high + 1) 256 bs (omega arith) p)))
