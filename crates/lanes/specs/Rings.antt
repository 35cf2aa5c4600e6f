-- What a ring holds in its rows, front to back.
use Rattle.std.specs.Prelude.{ℕ, List, ◌++◌, take, drop}

-- the rows from `first` on, and then from the start
abbrev pub turned : {X : Type 0} → ℕ → List X → List X
turned first rows = drop first rows ++ take first rows

-- the items: `len` of them
abbrev pub items : {X : Type 0} → ℕ → ℕ → List X → List X
items first len rows = take len (turned first rows)
