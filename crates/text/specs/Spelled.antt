-- The line that asks for a command, and that only such a line is accepted.
use Rattle.std.specs.Prelude.{◌≡◌, ℕ, ◌<◌, ◌≤◌, List, [], ◌∷◌, ◌++◌, length, Ok, Err, codes, decimal, Result, ◌≢◌}
use Rattle.table.specs.declared.refusal.Refusal.{Refusal}
use Rattle.text.specs.Sizes.{most_ports}
use Rattle.text.specs.Numbers.{most}
use Rattle.text.specs.Parts.{blank}
use Rattle.text.specs.Commands.{Asked, reserve, release, shut, reopen, table}

-- the word of a command
abbrev pub word_of : Asked → List ℕ
word_of (reserve n l w ps) = codes "reserve"
word_of (release n) = codes "release"
word_of (shut p) = codes "shut"
word_of (reopen p) = codes "reopen"
word_of (table p) = codes "table"

-- its numbers, in their order
abbrev pub numbers_of : Asked → List ℕ
numbers_of (reserve n l w ps) = n ∷ l ∷ w ∷ ps
numbers_of (release n) = n ∷ []
numbers_of (shut p) = p ∷ []
numbers_of (reopen p) = p ∷ []
numbers_of (table p) = p ∷ []

-- numbers, each behind a blank
abbrev pub behind : List ℕ → List ℕ
behind [] = []
behind (n ∷ ns) = blank ∷ (decimal n ++ behind ns)

-- the line that asks for a command: its word and its numbers in decimal, with one blank before each
abbrev pub line_of : Asked → List ℕ
line_of a = word_of a ++ behind (numbers_of a)

abbrev pub AllLow : List ℕ → Type 0
AllLow [] = Unit {0}
AllLow (n ∷ ns) = (n ≤ most) × AllLow ns

-- a path has at least one port, and not too many
abbrev pub PathFits : Asked → Type 0
PathFits (reserve n l w ps) = (0 < length ps) × (length ps ≤ most_ports)
PathFits (release n) = Unit {0}
PathFits (shut p) = Unit {0}
PathFits (reopen p) = Unit {0}
PathFits (table p) = Unit {0}

-- what a line can ask for
pub record Askable (a : Asked) : Type 0 where
  pub low : AllLow (numbers_of a)
  pub path : PathFits a

-- a command is read just from the line that asks for it
abbrev pub Reads : List ℕ → Result Asked Refusal → Type 0
Reads line (Ok a) = (line ≡ line_of a) × Askable a
Reads line (Err e) = (a : Asked) → Askable a → line ≢ line_of a
