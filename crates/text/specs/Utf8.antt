-- UTF-8 text by Table 3-7 of the Unicode Standard: one decoding step at a position, and what is folded over the steps of a text.
-- Assumes nothing.
use Rattle.std.specs.Prelude.{ℕ, zero, suc, ◌+◌, ◌-◌, ◌*◌, ◌%◌, ◌≤◌, ◌<◌, max, ◌≡◌, Bool, true, cond, ◌&&◌, List, [], ◌∷◌, ◌++◌, leb, ltb, eqb, length, get_or}
use Rattle.std.specs.Prelude.{Option, Some, None}
use Rattle.std.specs.Option.{option_map}
use Rattle.std.proofs.Math.Seq.{slice}
use Rattle.text.specs.Unicode.{within, is_scalar, utf8, utf8s, utf16s}
use Rattle.text.specs.declared.utf8.Step.{Step}
use Rattle.text.specs.declared.utf8.Step.TheVariants.{Scalar, IllFormed, End}

-- A row of Table 3-7: how many bytes, the range of the first, and that of the second. Any later byte is from 80 to BF.
pub record Row : Type 0 where
  pub bytes : ℕ
  pub first_low : ℕ
  pub first_high : ℕ
  pub second_low : ℕ
  pub second_high : ℕ

-- a row by its numbers, in the table's order
abbrev row : ℕ → ℕ → ℕ → ℕ → ℕ → Row
row n a b c d = record { bytes = n; first_low = a; first_high = b; second_low = c; second_high = d }

-- Table 3-7. The first row has no second byte, and the range there says nothing.
unfoldable pub table : List Row
table =
    row 1 0x00 0x7F 0x80 0xBF
    ∷ row 2 0xC2 0xDF 0x80 0xBF
    ∷ row 3 0xE0 0xE0 0xA0 0xBF
    ∷ row 3 0xE1 0xEC 0x80 0xBF
    ∷ row 3 0xED 0xED 0x80 0x9F
    ∷ row 3 0xEE 0xEF 0x80 0xBF
    ∷ row 4 0xF0 0xF0 0x90 0xBF
    ∷ row 4 0xF1 0xF3 0x80 0xBF
    ∷ row 4 0xF4 0xF4 0x80 0x8F
    ∷ []

-- the first row whose first byte may be b; where there is none, b starts nothing: a row of no bytes
unfoldable pub find : List Row → ℕ → Row
find [] b = row 0 0 0 0x80 0xBF
find (r ∷ rs) b = cond (within r.first_low r.first_high b) r (find rs b)

-- "The leading one bits of the first byte give a sequence's length": that of the sequences that start with b, 0 where none does
unfoldable pub sequence_length : ℕ → ℕ
sequence_length b = (find table b).bytes

-- a range of bytes, both ends in it
pub record Range : Type 0 where
  pub low : ℕ
  pub high : ℕ

-- "The first byte alone decides the range of the second"
unfoldable pub second_range : ℕ → Range
second_range b = record { low = (find table b).second_low; high = (find table b).second_high }

-- s has a byte from low to high at i
unfoldable pub has_in : List ℕ → ℕ → ℕ → ℕ → Bool
has_in s i low high = ltb i (length s) && within low high (get_or s i 0)

-- The number of bytes from i on that are the start of a row of Table 3-7: none where the first starts nothing, and at most the row's length
unfoldable pub matched : List ℕ → ℕ → ℕ
matched s i =
    cond (leb (sequence_length (get_or s i 0)) 1) (sequence_length (get_or s i 0))
    (cond (has_in s (i + 1) (second_range (get_or s i 0)).low (second_range (get_or s i 0)).high)
    (cond (eqb (sequence_length (get_or s i 0)) 2) 2
    (cond (has_in s (i + 2) 0x80 0xBF)
    (cond (eqb (sequence_length (get_or s i 0)) 3) 3
    (cond (has_in s (i + 3) 0x80 0xBF) 4 3))
    2))
    1)

-- Table 3-6 read backwards: the scalar value of the sequence of n bytes at i
unfoldable pub value_at : List ℕ → ℕ → ℕ → ℕ
value_at s i n =
    cond (eqb n 1) (get_or s i 0)
    (cond (eqb n 2) (get_or s i 0 % 32 * 64 + get_or s (i + 1) 0 % 64)
    (cond (eqb n 3) (get_or s i 0 % 16 * 4096 + get_or s (i + 1) 0 % 64 * 64 + get_or s (i + 2) 0 % 64)
    (get_or s i 0 % 8 * 262144 + get_or s (i + 1) 0 % 64 * 4096 + get_or s (i + 2) 0 % 64 * 64 + get_or s (i + 3) 0 % 64)))

-- a whole row of the table stands at i
unfoldable pub whole_at : List ℕ → ℕ → Bool
whole_at s i = ltb 0 (sequence_length (get_or s i 0)) && eqb (matched s i) (sequence_length (get_or s i 0))

-- the end of the sequence at i, or of the maximal ill-formed part: what starts a row, and one byte at least
unfoldable pub next_at : List ℕ → ℕ → ℕ
next_at s i = i + max 1 (matched s i)

-- one step of decoding at i
unfoldable pub step_at : List ℕ → ℕ → Step
step_at s i =
    cond (ltb i (length s))
    (cond (whole_at s i) (Scalar (value_at s i (matched s i)) (next_at s i)) (IllFormed (next_at s i)))
    End

-- The Standard's own words for what a step finds; that `step_at` finds it is proved in proofs/MaximalSubpart.antt.
-- w begins a well-formed sequence
pub record Initial (w : List ℕ) : Type 0 where
  pub scalar : ℕ
  pub rest : List ℕ
  pub is_scalar_lem : is_scalar scalar ≡ true
  pub is_prefix : utf8 scalar ≡ w ++ rest

-- "maximal subpart of an ill-formed subsequence: the longest code unit subsequence starting at an unconvertible offset that is either the
-- initial subsequence of a well-formed code unit sequence, or a subsequence of length one"
pub record MaximalSubpart (s : List ℕ) (i next : ℕ) : Type 0 where
  pub here : (i < next) × (next ≤ length s)
  pub unconvertible : (v e : ℕ) → is_scalar v ≡ true → e ≤ length s → slice i e s ≡ utf8 v → ⊥
  pub starts : i + 1 < next → Initial (slice i next s)
  pub longest : (e : ℕ) → next < e → e ≤ length s → Initial (slice i e s) → ⊥

-- A text is a list of parts: well-formed sequences, by their scalar values, and maximal ill-formed parts, by their positions
pub data Part : Type 0 where
  sequence : ℕ → Part
  ill_formed : ℕ → Part

-- what the step at i puts before the parts that follow it
abbrev pub before : Step → ℕ → (ℕ → List Part) → List Part
before (Scalar v n) i rest = sequence v ∷ rest n
before (IllFormed n) i rest = ill_formed i ∷ rest n
before End i rest = []

-- the parts of s from i on, k at most; the recursion counts down, which no law outside proofs/PartLaws.antt sees
unfoldable pub parts_count : ℕ → List ℕ → ℕ → List Part
parts_count zero s i = []
parts_count (suc k) s i = before (step_at s i) i (parts_count k s)

-- the parts of s from i on
unfoldable pub parts_from : List ℕ → ℕ → List Part
parts_from s i = parts_count (length s - i) s i

-- the scalar values, none where a part is ill-formed
unfoldable pub scalars_of : List Part → Option (List ℕ)
scalars_of [] = Some []
scalars_of (sequence v ∷ ps) = option_map (λ vs. v ∷ vs) (scalars_of ps)
scalars_of (ill_formed i ∷ ps) = None

-- the position of the first ill-formed part
unfoldable pub first_ill_formed : List Part → Option ℕ
first_ill_formed [] = None
first_ill_formed (sequence v ∷ ps) = first_ill_formed ps
first_ill_formed (ill_formed i ∷ ps) = Some i

-- "each maximal ill-formed part becomes EF BF BD", the bytes of U+FFFD
unfoldable pub repaired : List Part → List ℕ
repaired [] = []
repaired (sequence v ∷ ps) = v ∷ repaired ps
repaired (ill_formed i ∷ ps) = 0xFFFD ∷ repaired ps

-- how many parts are replaced: a genuine U+FFFD is a sequence and not among them
unfoldable pub replaced_in : List Part → ℕ
replaced_in [] = 0
replaced_in (sequence v ∷ ps) = replaced_in ps
replaced_in (ill_formed i ∷ ps) = suc (replaced_in ps)

-- the scalar values of a well-formed text
abbrev pub scalars8 : List ℕ → Option (List ℕ)
scalars8 s = scalars_of (parts_from s 0)

-- the UTF-16 code units of a well-formed text
abbrev pub units_of : List ℕ → Option (List ℕ)
units_of s = option_map utf16s (scalars8 s)

-- the bytes before the first zero byte, all of them where there is none
unfoldable pub before_zero : List ℕ → List ℕ
before_zero [] = []
before_zero (x ∷ xs) = cond (eqb x 0) [] (x ∷ before_zero xs)

-- the repaired text, as `String::from_utf8_lossy` has it
abbrev pub lossy : List ℕ → List ℕ
lossy s = utf8s (repaired (parts_from s 0))
