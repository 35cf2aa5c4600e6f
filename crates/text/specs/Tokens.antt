-- What the fields of a line are.
use Rattle.std.specs.Prelude.{ℕ, Bool, true, false, cond, List, [], ◌∷◌, map, Some, None, Option}
use Rattle.std.specs.List.{list_all}
use Rattle.text.specs.declared.bytes.Class.{Class}
use Rattle.text.specs.declared.bytes.Class.TheVariants.{Digit, Letter, Blank}
use Rattle.text.specs.declared.field.Field.{Field}
use Rattle.text.specs.declared.field.Field.TheVariants.{Word, Number, Stray}
use Rattle.text.specs.Bytes.{class_of}
use Rattle.text.specs.Numbers.{number_of}
use Rattle.text.specs.Parts.{Part, parts_of}

-- a word, a number or a stray field, each with its place
pub data Token : Type 0 where
  word : List ℕ → ℕ → Token
  number : ℕ → ℕ → Token
  stray : List ℕ → ℕ → Token

-- is it the class of small letters?
abbrev pub is_letter : Class → Bool
is_letter Digit = false
is_letter Letter = true
is_letter Blank = false
is_letter Class.Stray = false

abbrev pub all_letters : List ℕ → Bool
all_letters bs = list_all (λ b. is_letter (class_of b)) bs

-- is it at least one letter, and nothing else?
abbrev pub is_word : List ℕ → Bool
is_word [] = false
is_word (b ∷ bs) = all_letters (b ∷ bs)

abbrev pub by_number : Option ℕ → Part → Token
by_number (Some n) p = number n p.place
by_number None p = cond (is_word p.bytes) (word p.bytes p.place) (stray p.bytes p.place)

-- what a part is: a number, else a word, else stray
abbrev pub token_of : Part → Token
token_of p = by_number (number_of p.bytes) p

-- the fields of a line
abbrev pub tokens_of : List ℕ → List Token
tokens_of line = map token_of (parts_of line)

-- a field by its bytes, wherever they are kept
abbrev pub told : Field → Token
told (Word text at) = word text.now at
told (Number n at) = number n at
told (Stray text at) = stray text.now at
