-- The outcomes of the calls for C, from what the calls that they stand on promise.
-- Assumes nothing.
use Prim.Native.Nat.{ℕ}
use mathlib.Core.Path.{◌≡◌}
use mathlib.Core.List.{List}
use lib.ListN.{length}
use Rattle.text.specs.Result.{Result, ok, error, map_result, overwritten}
use Rattle.text.specs.declared.utf8.LossySize.{LossySize}
use Rattle.writer.specs.Spans.{joined, spans_from}
use Rattle.reader.specs.Names.{ShownText}
use Rattle.reader.specs.Replies.{size_of, text_size_of}
use Rattle.reader.specs.declared.saveobj.DecodedSize.{DecodedSize}
use Rattle.mcos.specs.Exports.{Exports, ExportsList, ExportsStrings, ExportsText}

-- a call that hands its callee's reply on: what is told of the reply holds of what the callee promises
pub told : {A B : Type 0} {h : A → B} (m : Result A) {x : Result B} {v v' : B} {place r place' : ℕ} → x ≡ map_result h m → Exports (λ b. b) x v place r v' place' → Exports h m v place r v' place'
told (ok a) e s =
    let t = rw e at s in
    record { number = t.number; value_after_lem = t.value_after_lem; place_after_lem = t.place_after_lem }
told (error f) e s =
    let t = rw e at s in
    record { number = t.number; value_after_lem = t.value_after_lem; place_after_lem = t.place_after_lem }

pub told_list : {A B : Type 0} {f : List A → List B} {m : ℕ → Result (List A)} {out out' : List B} {x : Result ℕ} {v place r v' place' : ℕ}
    → Exports (λ n. n) x v place r v' place' → x ≡ map_result length (m (length out)) → out' ≡ overwritten f (m (length out)) out → ExportsList f m out v place r out' v' place'
told_list {m = m} {out = out} s e b = record { exports = told (m (length out)) e s; buffer = b }

pub told_text : {m : ℕ → Result ShownText} {out out' : List ℕ} {x : Result LossySize} {v v' : LossySize} {place r place' : ℕ}
    → Exports (λ n. n) x v place r v' place' → x ≡ map_result text_size_of (m (length out)) → out' ≡ overwritten (λ t. t.text) (m (length out)) out
    → ExportsText m out v place r out' v' place'
told_text {m = m} {out = out} s e b = record { exports = told (m (length out)) e s; buffer = b }

pub told_strings : {m : ℕ → ℕ → Result (List (List ℕ))} {text spans text' spans' : List ℕ} {x : Result DecodedSize} {v v' : DecodedSize} {place r place' : ℕ}
    → Exports (λ n. n) x v place r v' place' → x ≡ map_result size_of (m (length text) (length spans)) → text' ≡ overwritten joined (m (length text) (length spans)) text → spans' ≡ overwritten (spans_from 0) (m (length text) (length spans)) spans
    → ExportsStrings m text spans v place r text' spans' v' place'
told_strings {m = m} {text = text} {spans = spans} s e t n = record { exports = told (m (length text) (length spans)) e s; text_after = t; spans_after = n }
