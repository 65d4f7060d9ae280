-- Code units pushed one by one into words: a word is stored when its fourth unit comes.
-- Assumes nothing.
use Rattle.std.specs.Prelude.{ℕ, ◌+◌, ◌*◌, ◌/◌, ◌%◌, ◌-◌, ◌≤◌, ◌<◌, ◌≡◌, cond, List, [], ◌∷◌, eqb, set, replicate, length, get_or}
use Rattle.std.specs.Prelude.{Some}
use Rattle.text.specs.Unicode.{utf16s}
use Rattle.text.specs.Utf8.{units_of, parts_from, scalars_of, step_at}
use Rattle.text.specs.declared.utf8.Step.TheVariants.{Scalar}
use Rattle.writer.specs.Array.{string_units}
use Rattle.writer.specs.declared.packing.Packer.{Packer}

-- the words, the last four units, and how many were pushed
pub record State : Type 0 where
  pub words : List ℕ
  pub word : ℕ
  pub count : ℕ

abbrev pub state_of : Packer → State
state_of p = record { words = p.words.now; word = p.word; count = p.count }

-- nothing is pushed
abbrev pub fresh : List ℕ → State
fresh d = record { words = d; word = 0; count = 0 }

-- one unit more
unfoldable pub push : State → ℕ → State
push s u = record {
  words = cond (eqb ((s.count + 1) % 4) 0) (set s.words (s.count / 4) (s.word / 65536 + u * 281474976710656)) s.words;
  word = s.word / 65536 + u * 281474976710656;
  count = s.count + 1;
}

-- units one after another
unfoldable pub pushes : State → List ℕ → State
pushes s [] = s
pushes s (u ∷ us) = pushes (push s u) us

-- the zeros that fill the last word
abbrev pub padding : ℕ → List ℕ
padding n = replicate ((4 - n % 4) % 4) 0

-- pushing us takes the packer p to p'
pub record Pushed (p : Packer) (us : List ℕ) (p' : Packer) : Type 0 where
  pub is : state_of p' ≡ pushes (state_of p) us

-- p' has the words of p with its last word filled by zeros
pub record Finished (p p' : Packer) : Type 0 where
  pub is : p'.words.now ≡ (pushes (state_of p) (padding p.count)).words

-- the text is well-formed, and there is room for the words that its units fill
pub record Packable (text : List ℕ) (p : Packer) : Type 0 where
  pub well_formed : units_of text ≡ Some (string_units text)
  pub fits : (p.count + length (string_units text)) / 4 ≤ length p.words.now

-- the same from index i on: the scalar values more are left
pub record PackableFrom (text : List ℕ) (i : ℕ) (p : Packer) : Type 0 where
  pub more : List ℕ
  pub rest : scalars_of (parts_from text i) ≡ Some more
  pub fits : (p.count + length (utf16s more)) / 4 ≤ length p.words.now

-- the text has a well-formed sequence at index i, and not of one byte
pub record SequenceAt (text : List ℕ) (i : ℕ) : Type 0 where
  pub value : ℕ
  pub next : ℕ
  pub is : step_at text i ≡ Scalar value next
  pub long : 128 ≤ get_or text i 0

-- the text has the ASCII bytes us from index i on
abbrev pub Ascii : List ℕ → ℕ → List ℕ → Type 0
Ascii text i [] = Unit
Ascii text i (u ∷ us) = (i < length text) × ((get_or text i 0 ≡ u) × ((u < 128) × Ascii text (i + 1) us))

-- n ASCII bytes of the text from index i on, one at least, are pushed
pub record PushedAscii (text : List ℕ) (i n : ℕ) (p p' : Packer) : Type 0 where
  pub units : List ℕ
  pub ascii : Ascii text i units
  pub count : n ≡ length units
  pub some : 1 ≤ n
  pub pushed : Pushed p units p'
