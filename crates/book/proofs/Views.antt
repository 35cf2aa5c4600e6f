-- Relations that the loops keep.
use Rattle.std.proofs.Common.{◌≡◌, ℕ, zero, suc, ◌+◌, ◌<◌, length, get_or, None}
use Rattle.book.specs.Entries.{Ranks}
use Rattle.book.specs.Levels.{Free, FreeIn, up}

-- the ranks from f on and those from g on, m of them, are exchanged
pub record Swapped (f g m : ℕ) (xs ys : Ranks) : Type 0 where
  pub len : length ys ≡ length xs
  pub left : (k : ℕ) → k < m → get_or ys (f + k) None ≡ get_or xs (g + k) None
  pub right : (k : ℕ) → k < m → get_or ys (g + k) None ≡ get_or xs (f + k) None
  pub rest : (r : ℕ) → ((k : ℕ) → k < m → r ≡ f + k → ⊥) → ((k : ℕ) → k < m → r ≡ g + k → ⊥) → get_or ys r None ≡ get_or xs r None

-- a free rank that is in no free set of level s
abbrev pub Loose : ℕ → Ranks → ℕ → ℕ → Type 0
Loose n xs s a = FreeIn n xs a × (Free (FreeIn n xs) s (up s a) → ⊥)

-- what the sessions that begin below rank m hold together
abbrev pub total : (ℕ → ℕ) → ℕ → ℕ
total size zero = 0
total size (suc m) = size m + total size m
