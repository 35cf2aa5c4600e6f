-- A line cut at its blanks.
use Rattle.std.specs.Prelude.{◌≡◌, ℕ, ◌+◌, Bool, true, cond, List, [], ◌∷◌, ◌++◌, length, take, drop, ◌==◌}
use Rattle.text.specs.Bytes.{bytes_before, lacks}

-- a part of a line: the place where it begins, and its bytes
pub record Part : Type 0 where
  pub place : ℕ
  pub bytes : List ℕ

abbrev pub part : ℕ → List ℕ → Part
part p bs = record { place = p; bytes = bs }

-- the byte between two parts
abbrev pub blank : ℕ
blank = 32

-- one more byte in front of the first part
abbrev pub grown : ℕ → ℕ → List Part → List Part
grown at b [] = part at (b ∷ []) ∷ []
grown at b (p ∷ ps) = part at (b ∷ p.bytes) ∷ ps

-- the parts of bytes that stand from a place on: a blank ends one, and what follows it is the next
abbrev pub parts_from : ℕ → List ℕ → List Part
parts_from at [] = part at [] ∷ []
parts_from at (b ∷ bs) = cond (b == blank) (part at [] ∷ parts_from (at + 1) bs) (grown at b (parts_from (at + 1) bs))

-- the parts of a line
abbrev pub parts_of : List ℕ → List Part
parts_of line = parts_from 0 line

-- how many bytes stand before the first blank
abbrev pub blank_after : List ℕ → ℕ
blank_after bs = bytes_before blank bs

-- parts that follow another, each behind a blank
abbrev pub follow : List Part → List ℕ
follow [] = []
follow (p ∷ ps) = blank ∷ (p.bytes ++ follow ps)

-- parts joined by one blank each
abbrev pub joined : List Part → List ℕ
joined [] = []
joined (p ∷ ps) = p.bytes ++ follow ps

-- is there no blank among the bytes?
abbrev pub blankless : List ℕ → Bool
blankless bs = lacks blank bs

-- a part holds no blank, and is what the line has at its place
pub record Stands (line : List ℕ) (p : Part) : Type 0 where
  pub whole : blankless p.bytes ≡ true
  pub there : take (length p.bytes) (drop p.place line) ≡ p.bytes

abbrev pub AllStand : List ℕ → List Part → Type 0
AllStand line [] = Unit {0}
AllStand line (p ∷ ps) = Stands line p × AllStand line ps

-- joined by blanks the parts are the line, and each stands at its place
pub record Cut (line : List ℕ) (ps : List Part) : Type 0 where
  pub again : joined ps ≡ line
  pub stand : AllStand line ps
