-- Two lists of edits, computed through the definitions that `edits_agree` is about: its premise can be met, and what it says of them is this.
-- Assumes nothing.
use Prim.Native.Nat.{ℕ}
use mathlib.Core.Path.{◌≡◌, refl, ap, ◌∙◌}
use mathlib.Core.List.{List, [], ◌∷◌, ◌++◌, flat_map}
use lib.ListN.{replicate}
use Rattle.text.specs.Product.{product_from, product_of}
use Rattle.text.specs.Result.{Result, ok, error, fold_range, fold_count}
use Rattle.text.specs.Unicode.{utf16}
use Rattle.text.specs.Utf8.{table, find, sequence_length, second_range, has_in, matched, value_at, whole_at, next_at, step_at, parts_count, parts_from, scalars_of}
use Rattle.writer.specs.Array.{Array, string_words, payload, is_shape, array_of, payloads}
use Rattle.writer.specs.FileWrapper.{u32s, entries_from, region, regions, offsets_from, file_wrapper}
use Rattle.writer.specs.Spans.{strings_from, check_string, check_strings, spans_from}
use Rattle.writer.specs.Words.{value, packed}
use Rattle.store.specs.Store.{Store, lengths_of, store_of, serialize, counted}
use Rattle.store.specs.Model.{Edit, append, replace, check_lengths, tried, candidate, model_from, model, execute}
use Rattle.store.proofs.EditLaws.{edits_agree}

-- an empty store in buffers for three objects and 14 words, whatever they held
start : Store
start = store_of 0 144 0 (file_wrapper 0 ++ replicate 144 9) (replicate 6 9) (replicate 3 9) (replicate 14 9)

is_empty : counted start ≡ serialize []
unfolding start file_wrapper offsets_from regions region entries_from u32s flat_map payloads spans_from
is_empty = refl

-- "A", "BCDEF", "€"
abbrev letters : List ℕ
letters = 0x41 ∷ 0x42 ∷ 0x43 ∷ 0x44 ∷ 0x45 ∷ 0x46 ∷ 0xE2 ∷ 0x82 ∷ 0xAC ∷ []

abbrev one : ℕ → ℕ → List ℕ
one offset length = offset ∷ length ∷ []

abbrev refused : ℕ → ℕ → Result (Unit {0})
refused n p = error (record { number = n; place = p })

-- an accepted append among refusals: 8 (there is no object 2, and never an object 0), 30 (an ill-formed string), 31 (two dimensions of 1 for no
-- string), 34 (18 words)
refusals : List Edit
refusals =
    append [] letters (one 0 1)
    ∷ replace 2 [] letters (one 0 1)
    ∷ replace 0 [] letters (one 0 1)
    ∷ append [] letters (one 6 2)
    ∷ append (1 ∷ 1 ∷ []) letters []
    ∷ append (0 ∷ 1 ∷ 1 ∷ 1 ∷ 1 ∷ 1 ∷ 1 ∷ 1 ∷ 1 ∷ 1 ∷ 1 ∷ 1 ∷ []) letters []
    ∷ []

refusals_answers : (model (lengths_of start) refusals).replies ≡ ok tt ∷ refused 8 2 ∷ refused 8 0 ∷ refused 30 0 ∷ refused 31 0 ∷ refused 34 18 ∷ []
unfolding start refusals model_from candidate tried check_lengths array_of check_strings check_string is_shape product_of product_from fold_range fold_count strings_from payload payloads spans_from string_words packed value file_wrapper offsets_from regions region entries_from u32s flat_map utf16 scalars_of parts_from parts_count step_at whole_at next_at value_at matched has_in sequence_length second_range find table
refusals_answers = refl

-- so a run of the edits answers, and what it leaves holds the one array
refusals_run : (execute start refusals).replies ≡ ok tt ∷ refused 8 2 ∷ refused 8 0 ∷ refused 30 0 ∷ refused 31 0 ∷ refused 34 18 ∷ []
refusals_run = (edits_agree start is_empty refusals).answers ∙ refusals_answers

-- a growing replacement, a shrinking one, and an array that stays as it was appended: "added last"
replacements : List Edit
replacements =
    append [] letters (one 0 1)
    ∷ append [] letters (one 1 5)
    ∷ append [] letters (one 5 1)
    ∷ replace 1 [] letters (one 1 5)
    ∷ replace 2 [] letters (one 6 3)
    ∷ []

arrays : List Array
arrays =
    (record { dims = []; strings = (0x42 ∷ 0x43 ∷ 0x44 ∷ 0x45 ∷ 0x46 ∷ []) ∷ [] })
    ∷ (record { dims = []; strings = (0xE2 ∷ 0x82 ∷ 0xAC ∷ []) ∷ [] })
    ∷ (record { dims = []; strings = (0x46 ∷ []) ∷ [] })
    ∷ []

replacements_list : (model (lengths_of start) replacements).last ≡ arrays
unfolding start replacements arrays model_from candidate tried check_lengths array_of check_strings check_string is_shape product_of product_from fold_range fold_count strings_from payload payloads spans_from string_words packed value file_wrapper offsets_from regions region entries_from u32s flat_map utf16 scalars_of parts_from parts_count step_at whole_at next_at value_at matched has_in sequence_length second_range find table
replacements_list = refl

replacements_store : counted (execute start replacements).last ≡ serialize arrays
replacements_store = (edits_agree start is_empty replacements).store ∙ ap serialize replacements_list

-- word for word: "BCDEF", then "€", then "F"
replacements_words : (serialize arrays).words ≡ 1 ∷ 0 ∷ 5 ∷ 0x45004400430042 ∷ 0x46 ∷ 1 ∷ 0 ∷ 1 ∷ 0x20AC ∷ 1 ∷ 0 ∷ 1 ∷ 0x46 ∷ []
unfolding arrays payload payloads string_words packed value flat_map utf16 scalars_of parts_from parts_count step_at whole_at next_at value_at matched has_in sequence_length second_range find table
replacements_words = refl
