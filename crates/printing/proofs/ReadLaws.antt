-- What several reads give, one after the other.
-- Assumes nothing.
use mathlib.Core.Path.{◌≡◌, ap, sym, ◌∙◌}
use mathlib.Core.List.{List, ◌++◌}
use Prim.Native.Nat.{ℕ, ◌+◌, ◌-◌, ◌≤◌}
use borrow.Rule.Slice.PartMut.{put_mid}
use lib.ListN.{length, take, drop}
use lib.Seq.{length-take-le, take-append-le, take-append-add}
use Rattle.std.specs.declared.option.Option.{Option}
use Rattle.std.specs.Io.KnownBytes.{Consumes}
use Rattle.std.proofs.KnownBytes.{Consumes-trans}

-- a buffer has the n bytes that a reader gave first, and the rest of it is lent, which then begins with k more that it gave next:
-- its first n + k are those that the reader gave
pub read_more : (a b c : Option (List ℕ)) (old new : List ℕ) (n k m : ℕ) → m ≡ n + k → n ≤ length old → k ≤ length new
    → Consumes a b (take n old) → Consumes b c (take k new) → Consumes a c (take m (put_mid n (length old - n) old new))
read_more a b c old new n k m e room most before read =
    let l : length (take n old) ≡ n = length-take-le n old room in
    let t : take m (put_mid n (length old - n) old new) ≡ take n old ++ take k new =
    ap (λ (j : ℕ). take j (put_mid n (length old - n) old new)) (e ∙ ap (λ (j : ℕ). j + k) (sym l))
    ∙ take-append-add (take n old) (new ++ drop (length old - n) (drop n old)) k
    ∙ ap (λ (r : List ℕ). take n old ++ r) (take-append-le k new (drop (length old - n) (drop n old)) most) in
    rw t (Consumes-trans _ _ _ _ _ before read)
