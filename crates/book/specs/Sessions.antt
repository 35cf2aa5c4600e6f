-- The sessions of a book.
use Rattle.std.specs.Prelude.{◌≡◌, ℕ, ◌/◌, ◌^◌, Bool, false, cond, ◌||◌, List, [], ◌∷◌, map, Some, None, sum_by, ◌==◌}
use Rattle.book.specs.declared.session.Session.{Session}
use Rattle.book.specs.Entries.{Ranks}

-- the sessions from left to right
unfoldable pub sessions_of : Ranks → List Session
sessions_of [] = []
sessions_of (None ∷ xs) = sessions_of xs
sessions_of (Some s ∷ xs) = s ∷ sessions_of xs

-- the sessions but the one of this number
unfoldable pub without : ℕ → List Session → List Session
without number [] = []
without number (s ∷ ss) = cond (s.number == number) (without number ss) (s ∷ without number ss)

-- a session of this number is listed
unfoldable pub listed : ℕ → List Session → Bool
listed number [] = false
listed number (s ∷ ss) = s.number == number || listed number ss

-- the same sessions, in any order: whatever is summed over the ones comes to as much over the others
abbrev pub SameSessions : List Session → List Session → Type 0
SameSessions these those = (g : Session → ℕ) → sum_by g these ≡ sum_by g those

-- turns of a session are so many slots apart in a table of 2 ^ n
abbrev pub spacing_of : ℕ → Session → ℕ
spacing_of n s = 2 ^ n / s.size

-- the spacings of listed sessions
abbrev pub spacings : ℕ → List Session → List ℕ
spacings n ss = map (spacing_of n) ss
