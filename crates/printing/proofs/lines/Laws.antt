-- The laws of the parts of a line: bytes and digits as they are shown, and the outcomes of writing them.
-- Assumes nothing.
use mathlib.Core.Path.{◌≡◌, refl, sym, ap, ◌∙◌}
use mathlib.Core.Bool.{Bool, true, false, cond}
use mathlib.Core.List.{List, [], ◌∷◌, ◌++◌, append_assoc, append-nil, flat_map}
use Prim.Native.Nat.{ℕ, zero, suc, ◌+◌, ◌*◌, ◌-◌, ◌/◌, ◌%◌, ◌^◌, ◌≤◌, ◌<◌, min}
use native.Mathlib.Nat.{pow-suc}
use native.Mathlib.Numerals.{add-one}
use native.Mathlib.Omega.{arith}
use borrow.Author.Tests.{lt-ltb, le-ltb, le-leb, ltb-true}
use lib.Dec.{leb, ltb}
use lib.ListN.{length, get_or, take, drop, set, length-append, length-set, length-take, length-drop, take-append-drop}
use lib.Seq.{take_all, take-suc, drop-length, append_snoc}
use Rattle.std.proofs.lemmas.List.{drop-set}
use borrow.Rule.Slice.PartMut.{mid_of, put_mid}
use Rattle.text.specs.Buffer.{Puts, Places}
use Rattle.text.specs.Result.{ok, need_place}
use Rattle.text.specs.declared.error.MatError.{MatError}
use Rattle.text.proofs.BufferLaws.{put_none, put_front, places_fits, places_front, part_put}
use Rattle.text.proofs.ByteLaws.{stores}
use Rattle.text.proofs.TestLaws.{clash, cond_both}
use Rattle.writer.proofs.FileWrapperLaws.{puts_then, puts_length, mid_put}
use Rattle.reader.specs.Opening.{empty_wrapper}
use Rattle.printing.specs.Lines.{is_plain, hex_digit, escape, escaped, digits, decimal, CountsDigits, numbered, line_text, WritesPart}
use Rattle.std.specs.Result.{result_unwrap_or}
use Rattle.text.specs.Replies.{outcome}
use Rattle.text.proofs.ResultLaws.{same_value}
use Rattle.std.specs.Prelude.{Ok, Err, Result as Reply}
use Rattle.printing.specs.declared.lines.LinePart.{LinePart}
use Rattle.printing.specs.declared.lines.LinePart.TheVariants as part

-- ---- a byte of a name

module _ (b : ℕ) {r : Bool} (is : r ≡ is_plain b) where
  escape_plain : r ≡ true → escape b ≡ b ∷ []
  unfolding escape
  escape_plain e = simp (sym is ∙ e)

  escape_hex : r ≡ false → escape b ≡ 0x5C ∷ hex_digit (b / 16) ∷ hex_digit (b % 16) ∷ []
  unfolding escape
  escape_hex e = simp (sym is ∙ e)

  size_plain : r ≡ true → 1 ≡ length (escape b)
  size_plain e = rw (escape_plain e)

  size_hex : r ≡ false → 3 ≡ length (escape b)
  size_hex e = rw (escape_hex e)

  module _ (d : List ℕ) (room : length (escape b) ≤ length d) where
    pub plain_room : r ≡ true → 0 < length d
    plain_room e = omega (arith, size_plain e)

    pub plain_puts : r ≡ true → Puts d 0 (escape b) 1 (set d 0 b)
    plain_puts e = rw (escape_plain e) (record { end = refl; buffer = stores (b ∷ []) d 0 (omega (arith, plain_room e)) })

    pub hex_puts : r ≡ false → {x y : ℕ} → x ≡ hex_digit (b / 16) → y ≡ hex_digit (b % 16) → {o : ℕ} {d' : List ℕ} → Places d 0 (0x5C ∷ x ∷ y ∷ []) o d' → Puts d 0 (escape b) o d'
    hex_puts e {x} {y} p q w =
        let f = places_fits d 0 (0x5C ∷ x ∷ y ∷ []) (omega (arith, size_hex e)) w in
        rw (escape_hex e) (rw (p, q) at f)

-- a space, the byte after 126, the quote and the backslash
escape_examples : escaped (0x20 ∷ 0x7F ∷ 0x22 ∷ 0x5C ∷ []) ≡ 0x5C ∷ 0x32 ∷ 0x30 ∷ 0x5C ∷ 0x37 ∷ 0x66 ∷ 0x5C ∷ 0x32 ∷ 0x32 ∷ 0x5C ∷ 0x35 ∷ 0x63 ∷ []
unfolding escaped escape flat_map
escape_examples = refl

-- ---- the bytes of a name

escaped_append : (s t : List ℕ) → escaped (s ++ t) ≡ escaped s ++ escaped t
unfolding escaped flat_map
escaped_append [] t = refl
escaped_append (b ∷ s) t = ap (λ (r : List ℕ). escape b ++ r) (escaped_append s t) ∙ sym (append_assoc (escape b) (escaped s) (escaped t))

-- one byte more
module _ (s : List ℕ) (i : ℕ) (h : i < length s) where
  escaped_next : escaped (take (i + 1) s) ≡ escaped (take i s) ++ escape (get_or s i 0)
  unfolding escaped flat_map
  escaped_next =
      rw (add-one, take-suc s i 0 h)
      (escaped_append (take i s) (get_or s i 0 ∷ []) ∙ ap (λ (r : List ℕ). escaped (take i s) ++ r) (append-nil (escape (get_or s i 0))))

  escaped_within : length (escaped (take i s)) + length (escape (get_or s i 0)) ≤ length (escaped s)
  escaped_within =
      let all : escaped s ≡ escaped (take (i + 1) s) ++ escaped (drop (i + 1) s) = ap escaped (sym (take-append-drop (i + 1) s)) ∙ escaped_append (take (i + 1) s) (drop (i + 1) s) in
      omega (
        arith,
        ap length all,
        length-append (escaped (take (i + 1) s)) (escaped (drop (i + 1) s)),
        ap length escaped_next,
        length-append (escaped (take i s)) (escape (get_or s i 0)),
      )

escaped_none : escaped [] ≡ []
unfolding escaped flat_map
escaped_none = refl

-- the bytes before i need n
pub record Measuring (s : List ℕ) (n i : ℕ) : Type 0 where
  pub bound : i ≤ length s
  pub size : n ≡ need_place (length (escaped (take i s)))

module _ (s : List ℕ) where
  pub measure_start : Measuring s 0 0
  measure_start = record { bound = omega arith; size = rw escaped_none }

  module _ {n i : ℕ} (m : Measuring s n i) where
    pub measure_turn : {k r : ℕ} → i < length s → k ≡ length (escape (get_or s i 0)) → r ≡ min (n + k) (2 ^ 64 - 1) → Measuring s r (i + 1)
    measure_turn h e q = record {
      bound = omega arith;
      size = omega (arith, m.size, ap length (escaped_next s i h), length-append (escaped (take i s)) (escape (get_or s i 0)));
    }

    pub measure_last : length s ≤ i → n ≡ need_place (length (escaped s))
    measure_last h = omega (arith, m.size, ap (λ (t : List ℕ). length (escaped t)) (take_all i s h))

-- the bytes before i are written to the start of d₀, which is now d, up to index o
pub record Writing (s d₀ d : List ℕ) (o i : ℕ) : Type 0 where
  pub bound : i ≤ length s
  pub room : length (escaped s) ≤ length d₀
  pub same : length d ≡ length d₀
  pub puts : Puts d₀ 0 (escaped (take i s)) o d

module _ (s : List ℕ) {d₀ : List ℕ} where
  pub write_start : length (escaped s) ≤ length d₀ → Writing s d₀ d₀ 0 0
  write_start h = record { bound = omega arith; room = h; same = refl; puts = rw escaped_none (record { end = refl; buffer = sym (put_none d₀ 0) }) }

  module _ {d : List ℕ} {o i : ℕ} (w : Writing s d₀ d o i) where
    module _ (h : i < length s) where
      pub write_in : o ≤ length d
      write_in = omega (arith, escaped_within s i h, w.puts.end)

      pub write_room : length (escape (get_or s i 0)) ≤ length (mid_of o (length d - o) d)
      write_room = omega (arith, escaped_within s i h, w.puts.end, length-take (length d - o) (drop o d), length-drop o d)

      module _ {n : ℕ} {part' : List ℕ} (p : Puts (mid_of o (length d - o) d) 0 (escape (get_or s i 0)) n part') where
        pub write_fits : o + n ≤ length d
        write_fits = omega (arith, escaped_within s i h, w.puts.end, p.end)

        pub write_turn : Writing s d₀ (put_mid o (length d - o) d part') (o + n) (i + 1)
        write_turn =
            let fit : o + length (escape (get_or s i 0)) ≤ length d = omega (arith, write_fits, p.end) in
            let q : Puts d o (escape (get_or s i 0)) (o + n) (put_mid o (length d - o) d part') = record { end = omega (arith, p.end); buffer = part_put d _ o fit p } in
            record {
              bound = omega arith;
              room = w.room;
              same = puts_length q fit ∙ w.same;
              puts = rw (escaped_next s i h) (puts_then w.puts q (omega (arith, escaped_within s i h)));
            }

    pub write_last : length s ≤ i → Puts d₀ 0 (escaped s) o d
    write_last h = rw (take_all i s h) at w.puts

-- ---- digits

digits_next : (k n : ℕ) → 10 ≤ n → digits (suc k) n ≡ digits k (n / 10) ++ (0x30 + n % 10) ∷ []
unfolding digits
digits_next k n h = simp (le-ltb n 10 h)

-- a larger count gives no more digits
digits_same : (k n : ℕ) → n < 10 ^ suc k → digits (suc k) n ≡ digits k n
unfolding digits
digits_same zero n h = simp (lt-ltb n 10 (omega arith))
digits_same (suc k) n h =
    ap (λ (r : List ℕ). cond (ltb n 10) ((0x30 + n) ∷ []) (r ++ (0x30 + n % 10) ∷ [])) (digits_same k (n / 10) (omega (arith, pow-suc 10 (suc k))))

digits_most : (k n : ℕ) → length (digits k n) ≤ k + 1
unfolding digits
digits_most zero n = omega arith
digits_most (suc k) n =
    cond_both (λ (r : List ℕ). length r ≤ suc k + 1) (ltb n 10) ((0x30 + n) ∷ []) (digits k (n / 10) ++ (0x30 + n % 10) ∷ [])
    (λ e. omega arith)
    (λ e. omega (arith, length-append (digits k (n / 10)) ((0x30 + n % 10) ∷ []), digits_most k (n / 10)))

pub decimal_most : (n : ℕ) → length (decimal n) ≤ 20
unfolding decimal
decimal_most n = digits_most 19 n

pub decimal_one : (n : ℕ) → n < 10 → decimal n ≡ (48 + n) ∷ []
unfolding decimal digits
decimal_one n h = simp (lt-ltb n 10 h)

pub decimal_more : (n : ℕ) → 10 ≤ n → n < 2 ^ 64 → decimal n ≡ decimal (n / 10) ++ (48 + n % 10) ∷ []
unfolding decimal
decimal_more n l h =
    digits_next 18 n l ∙ ap (λ (r : List ℕ). r ++ (48 + n % 10) ∷ []) (sym (digits_same 18 (n / 10) (omega arith)))

-- no digit is lost of the largest number of 64 bits
decimal_example : decimal (2 ^ 64 - 1)
    ≡ 0x31 ∷ 0x38 ∷ 0x34 ∷ 0x34 ∷ 0x36 ∷ 0x37 ∷ 0x34 ∷ 0x34 ∷ 0x30 ∷ 0x37 ∷ 0x33 ∷ 0x37 ∷ 0x30 ∷ 0x39 ∷ 0x35 ∷ 0x35 ∷ 0x31 ∷ 0x36 ∷ 0x31 ∷ 0x35 ∷ []
unfolding decimal digits
decimal_example = refl

decimal_size : (n : ℕ) → 10 ≤ n → n < 2 ^ 64 → length (decimal n) ≡ length (decimal (n / 10)) + 1
decimal_size n l h = ap length (decimal_more n l h) ∙ length-append (decimal (n / 10)) ((48 + n % 10) ∷ [])

-- a number from 10 ^ k on and below the next power of ten has k + 1 digits
ten_pos : (k : ℕ) → 0 < 10 ^ k
ten_pos zero = omega arith
ten_pos (suc k) = omega (arith, pow-suc 10 k, ten_pos k)

pub digits_counted : (k v : ℕ) → v < 2 ^ 64 → 10 ^ k ≤ v → v < 10 * 10 ^ k → length (decimal v) ≡ k + 1
digits_counted zero v h l u = ap length (decimal_one v (omega arith))
digits_counted (suc k) v h l u =
    let shorter = digits_counted k (v / 10) (omega arith) (omega (arith, pow-suc 10 k)) (omega (arith, pow-suc 10 k)) in
    omega (arith, decimal_size v (omega (arith, pow-suc 10 k, ten_pos k)) h)

pub digits_of : (v k : ℕ) → v < 2 ^ 64 → 10 ^ k ≤ v → v < 10 * 10 ^ k → CountsDigits v (k + 1)
digits_of v k h l u = let d = digits_counted k v h l u in record { is = sym d; few = omega (arith, decimal_most v) }

pub digits_of_zero : (v : ℕ) → v ≡ 0 → CountsDigits v 1
digits_of_zero v z = let d = ap length (decimal_one v (omega arith)) in record { is = sym d; few = omega arith }

-- the n last digits of v
unfoldable pub last_digits : ℕ → ℕ → List ℕ
last_digits zero v = []
last_digits (suc n) v = last_digits n (v / 10) ++ (48 + v % 10) ∷ []

last_next : (n v : ℕ) → last_digits (n + 1) v ≡ last_digits n (v / 10) ++ (48 + v % 10) ∷ []
unfolding last_digits
last_next n v = rw add-one refl

digit_last : (v : ℕ) → v < 10 → last_digits 1 v ≡ (48 + v) ∷ []
unfolding last_digits
digit_last v h = ap (λ (x : ℕ). (48 + x) ∷ []) (omega arith)

digits_last : (k v : ℕ) → v < 10 ^ suc k → last_digits (length (digits k v)) v ≡ digits k v
unfolding digits
digits_last zero v h = digit_last v (omega arith)
digits_last (suc k) v h =
    let shorter = digits_last k (v / 10) (omega (arith, pow-suc 10 (suc k))) in
    cond_both (λ (r : List ℕ). last_digits (length r) v ≡ r) (ltb v 10) ((0x30 + v) ∷ []) (digits k (v / 10) ++ (0x30 + v % 10) ∷ [])
    (λ e. digit_last v (ltb-true v 10 e))
    (λ e. rw (length-append (digits k (v / 10)) ((48 + v % 10) ∷ []), last_next (length (digits k (v / 10))) v) (ap (λ (r : List ℕ). r ++ (48 + v % 10) ∷ []) shorter))

-- the last digits of value stand from index i on, the i ones before them are those of v
pub record Printing (value : ℕ) (d : List ℕ) (v i : ℕ) : Type 0 where
  pub small : v < 2 ^ 32
  pub inside : i ≤ length d
  pub rest : last_digits i v ++ drop i d ≡ decimal value

module _ (value : ℕ) {d : List ℕ} where
  pub print_start : value < 2 ^ 32 → length d ≡ length (decimal value) → Printing value d value (length d)
  unfolding decimal
  print_start h e = record { small = h; inside = omega arith; rest = rw (drop-length d, append-nil (last_digits (length d) value), e) (digits_last 19 value (omega arith)) }

  pub print_turn : {v i : ℕ} → Printing value d v (i + 1) → Printing value (set d i (48 + v % 10)) (v / 10) i
  print_turn {v} {i} p = record {
    small = omega (arith, p.small);
    inside = simp length-set (omega (arith, p.inside));
    rest =
        rw (drop-set d i (48 + v % 10) (omega (arith, p.inside)))
        (sym (append_snoc (last_digits i (v / 10)) (48 + v % 10) (drop (i + 1) d)) ∙ ap (λ (r : List ℕ). r ++ drop (i + 1) d) (sym (last_next i v)) ∙ p.rest);
  }

  pub print_last : {v : ℕ} → Printing value d v 0 → d ≡ decimal value
  unfolding last_digits
  print_last p = p.rest

-- ---- a text at the start of an output

pub text_written : (w out : List ℕ) → length w ≤ length out → {n : ℕ} {out' : List ℕ} → Puts out 0 w n out' → WritesPart w out (Ok n) out'
text_written w out h p =
    let t : leb (length w) (length out) ≡ true = le-leb (length w) (length out) h in
    record { reply = simp t (ap ok (omega (arith, p.end))); buffer = simp t (p.buffer ∙ put_front out w) }

pub text_copied : (w out : List ℕ) → length w ≤ length out → {n : ℕ} {out' : List ℕ} → Places out 0 w n out' → WritesPart w out (Ok n) out'
text_copied w out h p = text_written w out h (places_fits out 0 w (omega arith) p)

module _ (start end out : List ℕ) (v : ℕ) {n : ℕ} (s : CountsDigits v n) where
  pub numbered_written : length start + n + length end ≤ length out → {a r : ℕ} {d p d'' : List ℕ}
      → Places out 0 start a d → p ≡ decimal v
      → Places (put_mid (length start) (length start + n - length start) d p) (length start + n) end r d'' → WritesPart (numbered start v end) out (Ok r) d''
  numbered_written h {d = d} {p = p} w e t =
      let m : List ℕ = put_mid (length start) (length start + n - length start) d p in
      let f : Puts out 0 start (length start) d = record { end = omega arith; buffer = places_front out start (omega arith) w } in
      let k : length d ≡ length out = puts_length f (omega arith) in
      let q : Puts d (length start) p (length start + n) m =
      record { end = omega (arith, ap length e); buffer = mid_put d (length start) (length start + n - length start) p (omega (arith, ap length e)) (omega arith) } in
      let g = puts_then f q (omega (arith, ap length e)) in
      let l : length (start ++ p) ≡ length start + n = omega (arith, ap length e, length-append start p) in
      let k' : length m ≡ length out = puts_length g (omega arith) in
      rw (sym e)
      (text_written (start ++ p ++ end) out (omega (arith, length-append (start ++ p) end)) (puts_then g (places_fits m (length start + n) end (omega arith) t) (omega arith)))

-- a text that fits is written, and never refused
pub text_puts : (t out : List ℕ) → length t ≤ length out → {r : Reply ℕ MatError} {out' : List ℕ} → WritesPart t out r out' → Puts out 0 t (result_unwrap_or r 0) out'
text_puts t out h {r} w =
    let f : leb (length t) (length out) ≡ true = le-leb (length t) (length out) h in
    record { end = accepted r (simp f at w.reply); buffer = simp f at w.buffer ∙ sym (put_front out t) }
  where
    accepted : (x : Reply ℕ MatError) → outcome x ≡ ok (length t) → result_unwrap_or x 0 ≡ 0 + length t
    accepted (Ok n) e = let z : n ≡ length t = same_value e in omega arith
    accepted (Err m) e = clash cc

pub text_never : (t out : List ℕ) → length t ≤ length out → {e : MatError} {out' : List ℕ} → WritesPart t out (Err e) out' → {n : ℕ} → Puts out 0 t n out'
text_never t out h {e} w =
    let f : leb (length t) (length out) ≡ true = le-leb (length t) (length out) h in
    let k : outcome {A = ℕ} (Err e) ≡ ok (length t) = simp f at w.reply in
    clash cc

-- ---- the most bytes that a text needs

escape_most : (b : ℕ) → length (escape b) ≤ 3
unfolding escape
escape_most b =
    cond_both (λ (r : List ℕ). length r ≤ 3) (is_plain b) (b ∷ []) (0x5C ∷ hex_digit (b / 16) ∷ hex_digit (b % 16) ∷ []) (λ e. omega arith) (λ e. omega arith)

pub escaped_most : (s : List ℕ) → length (escaped s) ≤ 3 * length s
unfolding escaped flat_map
escaped_most [] = omega arith
escaped_most (b ∷ s) = omega (arith, length-append (escape b) (escaped s), escape_most b, escaped_most s)

numbered_most : (start : List ℕ) (n : ℕ) (end : List ℕ) → length (numbered start n end) ≤ length start + 20 + length end
numbered_most start n end = omega (arith, decimal_most n, length-append start (decimal n), length-append (start ++ decimal n) end)

pub part_most : (p : LinePart) → length (line_text p) ≤ 29
part_most (part.Names n) = omega (arith, numbered_most (0x6E ∷ 0x61 ∷ 0x6D ∷ 0x65 ∷ 0x73 ∷ 0x20 ∷ []) n (0x0A ∷ []))
part_most (part.Refused n) = omega (arith, numbered_most (0x72 ∷ 0x65 ∷ 0x66 ∷ 0x75 ∷ 0x73 ∷ 0x65 ∷ 0x64 ∷ 0x20 ∷ []) n (0x0A ∷ []))
part_most part.TooLong = omega arith
part_most (part.Object n) = omega (arith, numbered_most (0x6F ∷ 0x62 ∷ 0x6A ∷ 0x65 ∷ 0x63 ∷ 0x74 ∷ 0x20 ∷ []) n (0x20 ∷ []))
part_most part.Property = omega arith
part_most part.Quote = omega arith
part_most (part.Heap n) = omega (arith, numbered_most (0x20 ∷ 0x68 ∷ 0x65 ∷ 0x61 ∷ 0x70 ∷ 0x20 ∷ []) n (0x0A ∷ []))
part_most (part.Inline n) = omega (arith, numbered_most (0x20 ∷ 0x69 ∷ 0x6E ∷ 0x6C ∷ 0x69 ∷ 0x6E ∷ 0x65 ∷ 0x20 ∷ []) n (0x0A ∷ []))
part_most part.Name = omega arith
part_most part.End = omega arith

-- "The listing program prints the line `names 0`": it has no object to go on with
pub empty_line : line_text (part.Names empty_wrapper.names) ≡ 0x6E ∷ 0x61 ∷ 0x6D ∷ 0x65 ∷ 0x73 ∷ 0x20 ∷ 0x30 ∷ 0x0A ∷ []
unfolding decimal digits
empty_line = refl
