-- The lines that are still to come.
use Rattle.std.specs.Prelude.{◌≡◌, ℕ, ◌+◌, List, [], ◌∷◌, length, take, drop, Some, None, Option}
use Rattle.std.specs.Borrow.{Bor}
use Rattle.text.specs.declared.feed.FirstLine.{FirstLine}
use Rattle.text.specs.declared.feed.Lines.{Lines}
use Rattle.text.specs.Lines.{lines_of, feed_after}

-- a first line and the rest, by their bytes
pub record Split : Type 0 where
  pub line : List ℕ
  pub rest : List ℕ

-- the bytes before the first line feed, and those after it
abbrev pub split_of : List ℕ → Option Split
split_of [] = None
split_of (b ∷ bs) = Some (record { line = take (feed_after (b ∷ bs)) (b ∷ bs); rest = drop (feed_after (b ∷ bs) + 1) (b ∷ bs) })

abbrev pub split_by : Option FirstLine → Option Split
split_by None = None
split_by (Some f) = Some (record { line = f.line.now; rest = f.rest.now })

-- the lines that a first line and the rest come to
abbrev pub lines_by : Option FirstLine → List (List ℕ)
lines_by None = []
lines_by (Some f) = f.line.now ∷ lines_of f.rest.now

abbrev pub lines_left : Lines → List (List ℕ)
lines_left l = lines_of l.rest.now

-- how many lines are to come, at most
abbrev pub bytes_left : Lines → ℕ
bytes_left l = length l.rest.now

-- a step gives the first line to come, and leaves the others; where none is to come it changes nothing
abbrev pub Feeds : Lines → Option (Bor (List ℕ)) → Lines → Type 0
Feeds l None m = (lines_left l ≡ []) × (m ≡ l)
Feeds l (Some x) m = lines_left l ≡ x.now ∷ lines_left m
