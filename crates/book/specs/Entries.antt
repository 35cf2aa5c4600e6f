-- A book as a list of entries, one for each rank: at the first rank of a session's set stands the session, and nothing stands at the others.
use Rattle.std.specs.Prelude.{ℕ, suc, ◌*◌, ◌^◌, Bool, false, ◌&&◌, ◌||◌, List, [], ◌∷◌, length, is_some, Some, None, Option, ◌==◌, nat_eq, nat_le, nat_lt, slice_index_or}
use Rattle.table.specs.Slots.{most_weight, lane_count}
use Rattle.table.specs.Services.{granted}
use Rattle.book.specs.declared.session.Session.{Session}
use Rattle.book.specs.Searches.{first_from}

-- the entries, from rank 0 on
abbrev pub Ranks : Type 0
Ranks = List (Option Session)

-- how many ranks the session of an entry holds
abbrev pub size_of : Option Session → ℕ
size_of None = 0
size_of (Some s) = s.size

-- the size of the session whose set begins at rank f, 0 where none begins
abbrev pub size_at : Ranks → ℕ → ℕ
size_at xs f = size_of (slice_index_or xs f None)

-- the units that a session is granted in all its slots
abbrev pub grant_of : Session → ℕ
grant_of s = granted s.weight s.size

-- the level of a set of m ranks, m = 2 ^ level, in a table of 2 ^ n: none where m is no such power
abbrev pub level_for : ℕ → ℕ → Option ℕ
level_for n m = first_from (λ i. nat_eq (2 ^ i) m) 0 (suc n)

-- A session that a book of 2 ^ n ranks takes: so many ranks make a set, they carry its weight, and ports have its lane.
abbrev pub fits : ℕ → Session → Bool
fits n s = is_some (level_for n s.size) && (nat_le 1 s.weight && (nat_le s.weight (most_weight * s.size) && nat_lt s.lane lane_count))

-- an entry that is the session of this number
abbrev pub is_number : ℕ → Option Session → Bool
is_number number None = false
is_number number (Some s) = s.number == number

-- the rank at which the set of the session of this number begins
abbrev pub place_of : ℕ → Ranks → Option ℕ
place_of number xs = first_from (λ f. is_number number (slice_index_or xs f None)) 0 (length xs)

-- a session of this number stands among the entries
unfoldable pub holds : ℕ → Ranks → Bool
holds number [] = false
holds number (x ∷ xs) = is_number number x || holds number xs
