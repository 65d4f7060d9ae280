-- The outcomes of comparing a class with "string".
-- Assumes nothing.
use mathlib.Core.Path.{◌≡◌, refl, sym, ap, ◌∙◌}
use mathlib.Core.Bool.{Bool, true, false, ◌||◌}
use mathlib.Core.List.{List, [], ◌∷◌, ◌++◌}
use Prim.Native.Nat.{ℕ}
use native.Mathlib.Omega.{arith}
use borrow.Author.Tests.{eq-eqb, ne_eqb}
use lib.Dec.{eqb}
use lib.Pointwise.{pointwise}
use Rattle.text.specs.Buffer.{same}
use Rattle.text.specs.Result.{ok, error, check}
use Rattle.text.proofs.SameLaws.{same_not}
use Rattle.text.proofs.TestLaws.{not_both}
use Rattle.reader.specs.Decode.{string_name, check_string_class}
use Rattle.reader.specs.Queries.{own_bytes, check_names, entry_text}
use Rattle.reader.specs.declared.file_wrapper.FileWrapper.{FileWrapper}
use Rattle.reader.specs.declared.records.ClassEntry.{ClassEntry}
use Rattle.reader.proofs.FindingLaws.{ascii_where_stored}
use Rattle.reader.proofs.names.Comparison.{compared}

-- ---- a text with a full stop is not "string"

or_true : (t : Bool) → (t || true) ≡ true
or_true true = refl
or_true false = refl

-- whether a full stop is among the bytes
has_stop : List ℕ → Bool
has_stop [] = false
has_stop (x ∷ xs) = eqb x 0x2E || has_stop xs

stop_in : (xs ys : List ℕ) → has_stop (xs ++ 0x2E ∷ ys) ≡ true
unfolding has_stop
stop_in [] ys = refl
stop_in (x ∷ xs) ys = rw (stop_in xs ys) (or_true (eqb x 0x2E))

same_stop : (xs ys : List ℕ) → same (xs ++ 0x2E ∷ ys) string_name ≡ false
unfolding has_stop
same_stop xs ys = same_not (xs ++ 0x2E ∷ ys) string_name (λ e. not_both (stop_in xs ys) (ap has_stop e))

-- ---- the entry of a class

module _ (b : List ℕ) (w : FileWrapper) (e : ClassEntry) {u : Unit {0}} (d : ok u ≡ check_names w e) where
  pub string_joined : (e.namespace_idx ≡ 0 → ⊥) → error (record { number = 16; place = 0 }) ≡ check_string_class (entry_text b w e)
  unfolding entry_text
  string_joined h = rw (← d) (simp (ne_eqb e.namespace_idx 0 h, same_stop))

  pub string_plain : e.namespace_idx ≡ 0 → {name wanted : List ℕ} → name ≡ own_bytes b w e.name_idx → wanted ≡ string_name → {t : Bool} → t ≡ pointwise eqb name wanted
      → check 16 t 0 ≡ check_string_class (entry_text b w e)
  unfolding entry_text
  string_plain z {name} n s l =
      rw (← d)
      (simp (eq-eqb e.namespace_idx 0 z)
      (ap (λ (s : Bool). check 16 s 0) (rw s at l ∙ compared name string_name ∙ rw n (sym (ascii_where_stored b w e.name_idx string_name (omega arith))))))

  -- by the test's outcome
  pub string_found : e.namespace_idx ≡ 0 → {name wanted : List ℕ} → name ≡ own_bytes b w e.name_idx → wanted ≡ string_name → true ≡ pointwise eqb name wanted
      → ok tt ≡ check_string_class (entry_text b w e)
  string_found z n s l = string_plain z n s l

  pub string_other : e.namespace_idx ≡ 0 → {name wanted : List ℕ} → name ≡ own_bytes b w e.name_idx → wanted ≡ string_name → false ≡ pointwise eqb name wanted
      → error (record { number = 16; place = 0 }) ≡ check_string_class (entry_text b w e)
  string_other z n s l = string_plain z n s l
