-- Sets of ranks: the set q of level i is the 2 ^ i ranks from q * 2 ^ i on, and the rank r is in the set r / 2 ^ i of level i.
use Rattle.std.specs.Prelude.{ℕ, suc, ◌+◌, ◌*◌, ◌/◌, ◌^◌, Bool, true, not, ◌&&◌, [], ◌∷◌, Option, nat_le, nat_lt}
use Rattle.book.specs.Searches.{first_from}
use Rattle.book.specs.Entries.{Ranks, size_of}

-- a session that holds the ranks from f on, held of them, has one among those from first on, size of them
abbrev pub meets : ℕ → ℕ → ℕ → ℕ → Bool
meets f held first size = nat_lt f (first + size) && (nat_lt first (f + held) && nat_lt 0 held)

-- no session has one of them; the list begins at rank f
abbrev pub clear_from : ℕ → Ranks → ℕ → ℕ → Bool
clear_from f [] first size = true
clear_from f (x ∷ xs) first size = not (meets f (size_of x) first size) && clear_from (suc f) xs first size

-- the same of a whole book
abbrev pub clear : Ranks → ℕ → ℕ → Bool
clear xs first size = clear_from 0 xs first size

-- in a table of 2 ^ n ranks: the set lies in it, and no session holds a rank of it
abbrev pub is_free : ℕ → Ranks → ℕ → ℕ → Bool
is_free n xs i q = nat_le (q * 2 ^ i + 2 ^ i) (2 ^ n) && clear xs (q * 2 ^ i) (2 ^ i)

-- a free set that no larger free set contains
abbrev pub is_whole : ℕ → Ranks → ℕ → ℕ → Bool
is_whole n xs i q = is_free n xs i q && not (is_free n xs (suc i) (q / 2))

-- the lowest free set of level i
abbrev pub lowest_free : ℕ → Ranks → ℕ → Option ℕ
lowest_free n xs i = first_from (is_free n xs i) 0 (2 ^ n / 2 ^ i)
