-- The Unicode Standard, chapter 3: scalar values, and their code unit sequences in UTF-8 and UTF-16.
-- Assumes nothing.
use Rattle.std.specs.Prelude.{ℕ, ◌+◌, ◌-◌, ◌/◌, ◌%◌, ◌<◌, Bool, cond, not, ◌&&◌, leb, ltb}
use mathlib.Core.List.{List, [], ◌∷◌, flat_map}

-- n is from low to high
abbrev pub within : ℕ → ℕ → ℕ → Bool
within low high n = leb low n && leb n high

-- every number of the list is below b: a list of bytes is Below 256, one of UTF-16 code units Below 65536
abbrev pub Below : ℕ → List ℕ → Type 0
Below b [] = Unit
Below b (x ∷ xs) = (x < b) × Below b xs

-- D71, D72: high surrogates
abbrev pub is_high_surrogate : ℕ → Bool
is_high_surrogate u = within 0xD800 0xDBFF u

-- D73, D74: low surrogates
abbrev pub is_low_surrogate : ℕ → Bool
is_low_surrogate u = within 0xDC00 0xDFFF u

-- either of the two
abbrev pub is_surrogate : ℕ → Bool
is_surrogate u = within 0xD800 0xDFFF u

-- D76: "any Unicode code point except high-surrogate and low-surrogate code points"
abbrev pub is_scalar : ℕ → Bool
is_scalar v = ltb v 0x110000 && not (is_surrogate v)

-- Table 3-6: the UTF-8 bytes of a scalar value
unfoldable pub utf8 : ℕ → List ℕ
utf8 v =
    cond (ltb v 0x80) (v ∷ [])
    (cond (ltb v 0x800) ((0xC0 + v / 64) ∷ (0x80 + v % 64) ∷ [])
    (cond (ltb v 0x10000) ((0xE0 + v / 4096) ∷ (0x80 + v / 64 % 64) ∷ (0x80 + v % 64) ∷ [])
    ((0xF0 + v / 262144) ∷ (0x80 + v / 4096 % 64) ∷ (0x80 + v / 64 % 64) ∷ (0x80 + v % 64) ∷ [])))

-- Table 3-5: the UTF-16 code units of a scalar value
unfoldable pub utf16 : ℕ → List ℕ
utf16 v =
    cond (ltb v 0x10000) (v ∷ [])
    ((0xD800 + (v - 0x10000) / 1024) ∷ (0xDC00 + (v - 0x10000) % 1024) ∷ [])

-- the UTF-8 bytes of scalar values, one after another
abbrev pub utf8s : List ℕ → List ℕ
utf8s vs = flat_map utf8 vs

-- the UTF-16 code units of scalar values, one after another
abbrev pub utf16s : List ℕ → List ℕ
utf16s vs = flat_map utf16 vs

-- what a number that may be no scalar value is written as: nothing if it is none
abbrev pub encoded : (ℕ → List ℕ) → ℕ → List ℕ
encoded form v = cond (is_scalar v) (form v) []
