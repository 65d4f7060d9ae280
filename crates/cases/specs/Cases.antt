-- Document 01's starred cases, and document 02's needs of an import: each one table with one proof. A case is what a definition comes to and
-- what the document says it comes to.
-- Assumes nothing.
use Rattle.std.specs.Prelude.{ℕ, ◌+◌, ◌-◌, ◌*◌, ◌^◌, ◌≡◌, refl, length, take, drop}
use mathlib.Core.List.{List, [], ◌∷◌, map, flat_map}
use Rattle.std.specs.Prelude.{Option}
use Rattle.text.specs.Product.{product_from, product_of}
use Rattle.text.specs.Result.{Result, ok, error, map_result, or_error, check_output, check_count, check_each, fold_count, fold_range}
use Rattle.text.specs.Unicode.{utf8, utf16}
use Rattle.text.specs.Utf16.{scalars16}
use Rattle.text.specs.Utf8.{table, find, sequence_length, second_range, has_in, matched, value_at, whole_at, next_at, step_at, parts_count, parts_from, scalars_of, repaired, replaced_in, scalars8, lossy, units_of}
use Rattle.reader.specs.Saveobj.{unit_count, units_before, stored_strings, check_header, check_sum, check_unit_count, check_pairing, decode_payload}
use Rattle.reader.specs.Units.{unit_at, units_in}
use Rattle.reader.specs.Opaque.{opaque_metadata}
use Rattle.writer.specs.Array.{string_words, payload, is_shape, array_of, encode_payload}
use Rattle.writer.specs.FileWrapper.{u32s, entries_from, region, regions, offsets_from, file_wrapper, build_metadata}
use Rattle.writer.specs.Spans.{strings_from, check_string}
use Rattle.writer.specs.Spans as spans
use Rattle.writer.specs.Words.{value, packed}

-- what a definition comes to, and what the document says
pub record Case : Type 0 where
  pub computed : Result (List ℕ)
  pub expected : Result (List ℕ)

-- a case
abbrev comes : Result (List ℕ) → Result (List ℕ) → Case
comes c e = record { computed = c; expected = e }

-- the value of a definition that may have none
abbrev given : Option (List ℕ) → Result (List ℕ)
given m = or_error (record { number = 0; place = 0 }) m

-- a check that does not hold, by its number and place
abbrev refusal : ℕ → ℕ → Result (List ℕ)
refusal n p = error (record { number = n; place = p })

-- opaque metadata as what it replies with, the position of the first id, the number of ids and the class, and then the ids at that position
abbrev listed : List ℕ → Result (List ℕ)
listed w = map_result (λ m. m.first_id ∷ m.ids ∷ m.class_id ∷ take m.ids (drop m.first_id w)) (opaque_metadata w)

-- the blob for n objects, built into room bytes: its length, and its bytes 8 to 39
abbrev built : ℕ → ℕ → Result (List ℕ)
built n room = map_result (λ b. length b ∷ take 32 (drop 8 b)) (build_metadata n room)

-- numbers below 256 as "Integers are little-endian" has them
abbrev little : List ℕ → List ℕ
little vs = flat_map (λ v. v ∷ 0 ∷ 0 ∷ 0 ∷ []) vs

-- a name's bytes as they are shown, after the number of replacements in them
abbrev named : List ℕ → Result (List ℕ)
named s = ok (replaced_in (parts_from s 0) ∷ lossy s)

-- the strings of a payload, each as its length and its bytes
abbrev decoded : List ℕ → Result (List ℕ)
decoded w = map_result (λ ss. flat_map (λ s. length s ∷ s) ss) (decode_payload w)

-- 01's "A€" with dimensions 1, 1, as it is lent: a text and one span
abbrev ascii_euro : List ℕ
ascii_euro = 0x41 ∷ 0xE2 ∷ 0x82 ∷ 0xAC ∷ []

-- the cases that 01 marks with a star, in its words
unfoldable pub starred : List Case
starred =
    -- n = 0: 144 bytes; offsets 56, 88, 96, 120, 128, 136, 136, 144
    comes (built 0 144) (ok (144 ∷ little (56 ∷ 88 ∷ 96 ∷ 120 ∷ 128 ∷ 136 ∷ 136 ∷ 144 ∷ [])))
    -- n = 2: 240 bytes; offsets 56, 88, 128, 200, 208, 232, 232, 240
    ∷ comes (built 2 240) (ok (240 ∷ little (56 ∷ 88 ∷ 128 ∷ 200 ∷ 208 ∷ 232 ∷ 232 ∷ 240 ∷ [])))
    -- "A€" with dimensions 1, 1: 1, 2, 1, 1, 2, 20AC0041
    ∷ comes (encode_payload (1 ∷ 1 ∷ []) ascii_euro (0 ∷ 4 ∷ []) 6) (ok (1 ∷ 2 ∷ 1 ∷ 1 ∷ 2 ∷ 0x20AC0041 ∷ []))
    -- payload 1, 0, 0: one empty string; 1, 1, 0: no strings; 1, 1, 1, 2^64 − 1: one empty string
    ∷ comes (decoded (1 ∷ 0 ∷ 0 ∷ [])) (ok (0 ∷ []))
    ∷ comes (decoded (1 ∷ 1 ∷ 0 ∷ [])) (ok [])
    ∷ comes (decoded (1 ∷ 1 ∷ 1 ∷ (2 ^ 64 - 1) ∷ [])) (ok (0 ∷ []))
    -- 1, 1, 1, 1, D800: 29, place 0; 1, 1, 1, 5, 0: 28, place 5
    ∷ comes (decoded (1 ∷ 1 ∷ 1 ∷ 1 ∷ 0xD800 ∷ [])) (refusal 29 0)
    ∷ comes (decoded (1 ∷ 1 ∷ 1 ∷ 5 ∷ 0 ∷ [])) (refusal 28 5)
    -- the payload of "A€" read back
    ∷ comes (decoded (1 ∷ 2 ∷ 1 ∷ 1 ∷ 2 ∷ 0x20AC0041 ∷ [])) (ok (4 ∷ ascii_euro))
    -- word list magic, 0, 7, 1: id 7, at position 2, of class 1
    ∷ comes (listed (0xDD000000 ∷ 0 ∷ 7 ∷ 1 ∷ [])) (ok (2 ∷ 1 ∷ 1 ∷ 7 ∷ []))
    -- magic, 4, three times 4294967295, 0, 1: 20; with the 0 put first: accepted, no ids
    ∷ comes (listed (0xDD000000 ∷ 4 ∷ 4294967295 ∷ 4294967295 ∷ 4294967295 ∷ 0 ∷ 1 ∷ [])) (refusal 20 2)
    ∷ comes (listed (0xDD000000 ∷ 4 ∷ 0 ∷ 4294967295 ∷ 4294967295 ∷ 4294967295 ∷ 1 ∷ [])) (ok (6 ∷ 0 ∷ 1 ∷ []))
    -- U+1F6E2 is F0 9F 9B A2, units D83D DEE2
    ∷ comes (ok (utf8 0x1F6E2)) (ok (0xF0 ∷ 0x9F ∷ 0x9B ∷ 0xA2 ∷ []))
    ∷ comes (ok (utf16 0x1F6E2)) (ok (0xD83D ∷ 0xDEE2 ∷ []))
    ∷ comes (given (scalars8 (0xF0 ∷ 0x9F ∷ 0x9B ∷ 0xA2 ∷ []))) (ok (0x1F6E2 ∷ []))
    ∷ comes (given (units_of (0xF0 ∷ 0x9F ∷ 0x9B ∷ 0xA2 ∷ []))) (ok (0xD83D ∷ 0xDEE2 ∷ []))
    -- name bytes F4 80 80: one replacement; E0 80: two
    ∷ comes (named (0xF4 ∷ 0x80 ∷ 0x80 ∷ [])) (ok (1 ∷ 0xEF ∷ 0xBF ∷ 0xBD ∷ []))
    ∷ comes (named (0xE0 ∷ 0x80 ∷ [])) (ok (2 ∷ 0xEF ∷ 0xBF ∷ 0xBD ∷ 0xEF ∷ 0xBF ∷ 0xBD ∷ []))
    ∷ []

-- every case holds
pub starred_hold : map (λ c. c.computed) starred ≡ map (λ c. c.expected) starred
unfolding starred replaced_in flat_map fold_range fold_count decode_payload check_header product_of product_from check_unit_count check_sum check_pairing check_each check_count unit_count units_before stored_strings units_in unit_at scalars16 opaque_metadata build_metadata file_wrapper offsets_from regions region entries_from u32s encode_payload array_of is_shape spans.check_strings check_string strings_from payload string_words packed value utf8 utf16 scalars_of repaired parts_from parts_count step_at whole_at next_at value_at matched has_in sequence_length second_range find table
starred_hold = refl

-- document 02's import of so many bytes whose characters have one, two and three bytes in UTF-8, into room bytes: 34 by the need alone
-- (`text_need` of crates/text/proofs/latin9/Import.antt)
abbrev imported : ℕ → ℕ → ℕ → ℕ → Result (List ℕ)
imported room ones twos threes = map_result (λ _. []) (check_output (ones + 2 * twos + 3 * threes) room)

-- recorded needs, all but two for more bytes than a program can hold: "any 34 whose need is past 64 bits gives place 2^64 − 1"
unfoldable pub needs : List Case
needs =
    comes (imported 5 (2 ^ 64 - 1) 0 0) (refusal 34 (2 ^ 64 - 1))
    ∷ comes (imported 5 0 0 (2 ^ 64 - 1)) (refusal 34 (2 ^ 64 - 1))
    ∷ comes (imported 5 1 0 6148914691236517205) (refusal 34 (2 ^ 64 - 1))
    ∷ comes (imported 5 0 0 6148914691236517205) (refusal 34 (2 ^ 64 - 1))
    ∷ comes (imported (2 ^ 64 - 1) 0 0 6148914691236517205) (ok [])
    ∷ comes (imported (2 ^ 64 - 1) 1 0 6148914691236517205) (refusal 34 (2 ^ 64 - 1))
    ∷ comes (imported 5 2 2 0) (refusal 34 6)
    ∷ comes (imported 6 2 2 0) (ok [])
    ∷ comes (imported 5 0 (2 ^ 63) 0) (refusal 34 (2 ^ 64 - 1))
    ∷ comes (imported 5 0 (2 ^ 63 - 1) 0) (refusal 34 (2 ^ 64 - 2))
    ∷ comes (imported 5 0 0 (2 ^ 63 - 1)) (refusal 34 (2 ^ 64 - 1))
    ∷ []

-- every need is told so
pub needs_hold : map (λ c. c.computed) needs ≡ map (λ c. c.expected) needs
unfolding needs
needs_hold = refl
