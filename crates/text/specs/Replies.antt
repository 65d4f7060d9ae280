-- What the replies of the code say, and what the calls promise of replies and output buffers.
-- Assumes nothing.
use Rattle.std.specs.Prelude.{ℕ, ◌^◌, ◌≡◌, cond, List, leb, ltb, length, Option, Some, None, Ok, Err, Result as Reply}
use Rattle.std.specs.Option.{option_map}
use Rattle.std.specs.Result.{result_ok}
use Rattle.text.specs.Buffer.{over}
use Rattle.text.specs.Errors.{failure_of}
use Rattle.text.specs.Result.{Result, ok, error, map_result, check_output, overwritten, ◌>>◌}
use Rattle.text.specs.Utf8.{parts_from, first_ill_formed, replaced_in, scalars8, units_of, before_zero, lossy}
use Rattle.text.specs.Utf16.{decode_utf16}
use Rattle.text.specs.declared.error.MatError.{MatError}
use Rattle.text.specs.declared.utf8.LossySize.{LossySize}
use Rattle.text.specs.declared.utf8.Utf8Error.{Utf8Error}

-- what a reply says: the value, or the number and place of the refusal
abbrev pub outcome : {A : Type 0} → Reply A MatError → Result A
outcome (Ok a) = ok a
outcome (Err e) = error (failure_of e)

-- where a text is ill-formed, none where it is not
abbrev pub error_place : {A : Type 0} → Reply A Utf8Error → Option ℕ
error_place (Ok a) = None
error_place (Err e) = Some e.valid_up_to

-- the number of code units of a well-formed text, or where the text is ill-formed
pub record CountsUnits (s : List ℕ) (r : Reply ℕ Utf8Error) : Type 0 where
  pub units : result_ok r ≡ option_map length (units_of s)
  pub place : error_place r ≡ first_ill_formed (parts_from s 0)

-- how many bytes stand before the first zero byte, where they are well-formed
abbrev pub terminated_length : List ℕ → Option ℕ
terminated_length s = option_map (λ _. length (before_zero s)) (scalars8 (before_zero s))

-- the bytes of the repaired text and the number of replaced parts
abbrev pub lossy_size : List ℕ → LossySize
lossy_size s = record { bytes = length (lossy s); replaced = replaced_in (parts_from s 0) }

-- the same, none where the bytes do not fit 64 bits
unfoldable pub lossy_length : List ℕ → Option LossySize
lossy_length s = cond (ltb (length (lossy s)) (2 ^ 64)) (Some (lossy_size s)) None

-- the repaired text over the front of a buffer that is long enough for it; a shorter buffer is kept: 34
pub record WritesLossy (s out : List ℕ) (r : Reply LossySize MatError) (out' : List ℕ) : Type 0 where
  pub reply : outcome r ≡ (check_output (length (lossy s)) (length out) >> ok (lossy_size s))
  pub buffer : out' ≡ cond (leb (length (lossy s)) (length out)) (over (lossy s) out) out

-- a call that writes a list to the start of an output; it comes to m of the output's length
pub record Writes {A : Type 0} (m : ℕ → Result (List A)) (out : List A) (r : Reply ℕ MatError) (out' : List A) : Type 0 where
  pub reply : outcome r ≡ map_result length (m (length out))
  pub buffer : out' ≡ overwritten (λ t. t) (m (length out)) out

-- a call that writes the text of code units to the start of text
abbrev pub DecodesUtf16 : List ℕ → List ℕ → Reply ℕ MatError → List ℕ → Type 0
DecodesUtf16 us text r text' = Writes (decode_utf16 us) text r text'
