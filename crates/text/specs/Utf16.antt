-- UTF-16 text: its scalar values, the same text in UTF-8, and what decoding it comes to.
-- Assumes nothing.
use Rattle.std.specs.Prelude.{ℕ, ◌+◌, ◌-◌, ◌*◌, Bool, cond, ◌&&◌, List, [], ◌∷◌, length}
use Rattle.std.specs.Prelude.{Option, Some, None}
use Rattle.std.specs.Option.{option_map, unwrap_or}
use Rattle.text.specs.Result.{Result, ok, or_error, check_output, ◌>>◌, ◌>>=◌}
use Rattle.text.specs.Unicode.{is_high_surrogate, is_low_surrogate, is_surrogate, utf8s}
use Rattle.text.specs.declared.utf16.Scalar.{Scalar}

-- Table 3-5 read backwards: the scalar value of a surrogate pair
abbrev pub pair_value : ℕ → ℕ → ℕ
pair_value high low = 0x10000 + (high - 0xD800) * 1024 + (low - 0xDC00)

-- a scalar value of n units
abbrev pub scalar : ℕ → ℕ → Scalar
scalar v n = record { value = v; units = n }

-- one step of decoding: the next unit, the one after it, and whether there is one; none where a surrogate has no partner
unfoldable pub unit_step : ℕ → ℕ → Bool → Option Scalar
unit_step first second more =
    cond (is_surrogate first)
    (cond (is_high_surrogate first && (more && is_low_surrogate second)) (Some (scalar (pair_value first second) 2)) None)
    (Some (scalar first 1))

-- the scalar values of code units, none where a surrogate has no partner
unfoldable pub scalars16 : List ℕ → Option (List ℕ)
scalars16 [] = Some []
scalars16 (u ∷ []) = cond (is_surrogate u) None (Some (u ∷ []))
scalars16 (u ∷ v ∷ us) =
    cond (is_high_surrogate u)
    (cond (is_low_surrogate v) (option_map (λ vs. pair_value u v ∷ vs) (scalars16 us)) None)
    (cond (is_low_surrogate u) None (option_map (λ vs. u ∷ vs) (scalars16 (v ∷ us))))

-- the UTF-8 text of code units
abbrev pub text_of : List ℕ → Option (List ℕ)
text_of us = option_map utf8s (scalars16 us)

-- the text where there is one
abbrev pub the_text : List ℕ → List ℕ
the_text us = unwrap_or (text_of us) []

-- `decode_utf16`: "29 with place 0, then 34", for an output of `room` bytes
unfoldable pub decode_utf16 : List ℕ → ℕ → Result (List ℕ)
decode_utf16 us room = do
  text ← or_error (record { number = 29; place = 0 }) (text_of us)
  check_output (length text) room
  ok text
