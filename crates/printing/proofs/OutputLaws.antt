-- The laws of an output buffer.
-- Assumes nothing.
use mathlib.Core.Path.{◌≡◌, ap, ◌∙◌}
use mathlib.Core.List.{List}
use Prim.Native.Nat.{ℕ, ◌+◌, ◌-◌, ◌≤◌}
use native.Mathlib.Omega.{arith}
use borrow.Rule.Slice.PartMut.{mid_of, put_mid}
use lib.ListN.{length, drop, length-take, length-drop}
use Rattle.std.specs.Prelude.{Result as Reply}
use Rattle.std.specs.Result.{result_unwrap_or}
use Rattle.text.specs.Buffer.{put, Puts}
use Rattle.text.specs.declared.error.MatError.{MatError}
use Rattle.text.proofs.BufferLaws.{part_put}
use Rattle.printing.specs.Lines.{WritesPart}
use Rattle.printing.specs.Output.{start_of, Adds}
use Rattle.printing.proofs.lines.Laws.{text_puts}

-- a text of at most 4,096 bytes goes to the part of the buffer that is free: out and used as they were, and as they are with room for it
pub added : (w out out₁ : List ℕ) (used used₁ : ℕ) → length w ≤ 4096
    → used₁ ≡ start_of out used → out₁ ≡ out → used₁ + 4096 ≤ length out₁
    → {r : Reply ℕ MatError} {n : ℕ} {part' : List ℕ} → WritesPart w (mid_of used₁ (length out₁ - used₁) out₁) r part' → n ≡ result_unwrap_or r 0
    → Adds w out used (put_mid used₁ (length out₁ - used₁) out₁ part') (used₁ + n)
added w out out₁ used used₁ l place kept room {r} {n} {part'} wr e =
    let m : length w ≤ length (mid_of used₁ (length out₁ - used₁) out₁) =
    omega (arith, length-take (length out₁ - used₁) (drop used₁ out₁), length-drop used₁ out₁) in
    let p = text_puts w (mid_of used₁ (length out₁ - used₁) out₁) m wr in
    let fit : used₁ + length w ≤ length out₁ = omega arith in
    let q : Puts (mid_of used₁ (length out₁ - used₁) out₁) 0 w n part' = record { end = e ∙ p.end; buffer = p.buffer } in
    record {
      puts = record {
        end = omega (arith, p.end);
        buffer = part_put out₁ w used₁ fit q ∙ ap (λ (d : List ℕ). put d used₁ w) kept ∙ ap (λ (at : ℕ). put out at w) place;
      };
    }
