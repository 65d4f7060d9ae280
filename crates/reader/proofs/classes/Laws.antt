-- The outcomes of the class queries.
-- Assumes nothing.
use mathlib.Core.Path.{◌≡◌, sym, ap, ◌∙◌}
use mathlib.Core.Bool.{true}
use mathlib.Core.List.{List, [], ◌∷◌, ◌++◌, append_assoc}
use Prim.Native.Nat.{ℕ, ◌+◌, ◌≤◌, ◌<◌}
use native.Mathlib.Omega.{arith}
use borrow.Author.Tests.{le-leb, eq-eqb, ne_eqb}
use lib.Dec.{leb}
use lib.ListN.{length, set, length-append, length-set}
use Rattle.std.specs.Prelude.{Ok}
use Rattle.text.specs.Buffer.{put, Puts, Places}
use Rattle.text.specs.Result.{ok}
use Rattle.text.specs.Utf8.{lossy}
use Rattle.text.specs.declared.utf8.LossySize.{LossySize}
use Rattle.text.proofs.BufferLaws.{put_front, put_more, length_put, places_fits}
use Rattle.text.proofs.ByteLaws.{stores}
use Rattle.text.proofs.ResultLaws.{seq_passed}
use Rattle.reader.specs.Names.{ShownText, shown_bytes}
use Rattle.reader.specs.Stages.Names.{IsSize}
use Rattle.reader.specs.Queries.{qualified, own_bytes, check_name, check_names, entry_text}
use Rattle.reader.specs.Replies.{WritesText}
use Rattle.reader.specs.declared.file_wrapper.FileWrapper.{FileWrapper}
use Rattle.reader.specs.declared.records.ClassEntry.{ClassEntry}
use Rattle.reader.proofs.NameLaws.{declared}

-- ---- namespace, full stop, name

module _ (p q text : List ℕ) {m n : LossySize} {bytes : ℕ} (a : IsSize p m) (c : IsSize q n) (s : bytes ≡ m.bytes + 1 + n.bytes) where
  abbrev first : List ℕ
  first = lossy p

  abbrev second : List ℕ
  second = lossy q

  abbrev full : ShownText
  full = qualified (shown_bytes p) (shown_bytes q)

  size : length full.text ≡ bytes
  size = omega (arith, length-append first (0x2E ∷ second), a, c)

  module _ (h : bytes ≤ length text) where
    joined_first : 0 + length first ≤ length text
    joined_first = omega (arith, a)

    module _ {d : List ℕ} {o : ℕ} (f : Places text 0 first o d) where
      put_first : Puts text 0 first o d
      put_first = places_fits text 0 first joined_first f

      same : length d ≡ length text
      same = ap length put_first.buffer ∙ length_put text 0 first joined_first

      joined_stop : m.bytes < length d
      joined_stop = omega (arith, same)

      module _ {d' : List ℕ} {o' : ℕ} (g : Places (set d m.bytes 0x2E) (m.bytes + 1) second o' d') where
        all : d' ≡ put text 0 full.text
        all =
            let put_second = places_fits (set d m.bytes 0x2E) (m.bytes + 1) second (omega (arith, same, c, length-set {A = ℕ})) g in
            let dot : set d m.bytes 0x2E ≡ put text 0 (first ++ 0x2E ∷ []) =
            stores (0x2E ∷ []) d m.bytes (omega (arith, joined_stop))
            ∙ ap (λ (v : List ℕ). put v m.bytes (0x2E ∷ [])) put_first.buffer
            ∙ put_more text 0 first (0x2E ∷ []) m.bytes (omega (arith, a)) (omega arith) in
            put_second.buffer
            ∙ ap (λ (v : List ℕ). put v (m.bytes + 1) second) dot
            ∙ put_more text 0 (first ++ 0x2E ∷ []) second (m.bytes + 1) (omega (arith, length-append first (0x2E ∷ []), a)) (omega (arith, c))
            ∙ ap (put text 0) (append_assoc first (0x2E ∷ []) second)

        pub joined_written : {replaced : ℕ} → replaced ≡ m.replaced + n.replaced → WritesText (ok full) text (Ok (record { bytes = bytes; replaced = replaced })) d'
        joined_written r =
            let t : leb (length full.text) (length text) ≡ true = le-leb (length full.text) (length text) (omega (arith, size)) in
            record { reply = simp t (rw (size, r, a.replaced, c.replaced)); buffer = simp t (all ∙ put_front text full.text) }

-- ---- the text of a class entry whose names passed 11

module _ (w : FileWrapper) (e : ClassEntry) {u : Unit {0}} (d : ok u ≡ check_names w e) where
  both : (v : Unit {0}) × ((check_name w e.name_idx ≡ ok v) × (check_name w e.namespace_idx ≡ ok u))
  unfolding check_names
  both = seq_passed (check_name w e.name_idx) (check_name w e.namespace_idx) (sym d)

  pub has_name : e.name_idx ≤ w.names
  has_name = declared w e.name_idx (sym both.1.0)

  pub has_space : e.namespace_idx ≤ w.names
  has_space = declared w e.namespace_idx (sym both.1.1)

  module _ (b : List ℕ) {p : List ℕ} (n : p ≡ own_bytes b w e.name_idx) where
    pub entry_plain : e.namespace_idx ≡ 0 → entry_text b w e ≡ ok (shown_bytes p)
    unfolding entry_text
    entry_plain z = rw (← d, n) (simp (eq-eqb e.namespace_idx 0 z))

    pub entry_joined : (e.namespace_idx ≡ 0 → ⊥) → {q : List ℕ} → q ≡ own_bytes b w e.namespace_idx
        → entry_text b w e ≡ ok (qualified (shown_bytes q) (shown_bytes p))
    unfolding entry_text
    entry_joined z q = rw (← d, n, q) (simp (ne_eqb e.namespace_idx 0 z))
