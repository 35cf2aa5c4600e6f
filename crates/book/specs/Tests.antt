-- What a book keeps between calls, as tests of its entries.
use Rattle.std.specs.Prelude.{ℕ, suc, ◌+◌, ◌*◌, ◌%◌, ◌^◌, Bool, true, cond, not, ◌&&◌, [], ◌∷◌, length, is_some, Some, None, Option, ◌==◌, nat_le, nat_lt}
use Rattle.book.specs.declared.session.Session.{Session}
use Rattle.book.specs.Searches.{all_below}
use Rattle.book.specs.Entries.{Ranks, size_at, level_for, fits, holds}
use Rattle.book.specs.Sets.{is_whole}

-- where the one test passes, the other does
abbrev pub implies : Bool → Bool → Bool
implies a b = cond a b true

-- an entry's session is one that a book takes
abbrev pub fits_in : ℕ → Option Session → Bool
fits_in n None = true
fits_in n (Some s) = fits n s

-- every session is one that a book takes
unfoldable pub all_fit : ℕ → Ranks → Bool
all_fit n [] = true
all_fit n (x ∷ xs) = fits_in n x && all_fit n xs

-- the m ranks from f on are a set of the table
abbrev pub is_set : ℕ → ℕ → ℕ → Bool
is_set n f m = is_some (level_for n m) && (f % m == 0 && nat_le (f + m) (2 ^ n))

-- every session holds a set
unfoldable pub are_sets : ℕ → Ranks → Bool
are_sets n xs = all_below (λ f. implies (nat_lt 0 (size_at xs f)) (is_set n f (size_at xs f))) (length xs)

-- the session at f holds the rank r
abbrev pub holds_rank : Ranks → ℕ → ℕ → Bool
holds_rank xs f r = nat_le f r && nat_lt r (f + size_at xs f)

-- no rank is held twice
unfoldable pub are_apart : ℕ → Ranks → Bool
are_apart n xs = all_below (λ f. all_below (λ g. all_below (λ r. implies (holds_rank xs f r && holds_rank xs g r) (f == g)) (2 ^ n)) (length xs)) (length xs)

-- no session number stands twice
unfoldable pub once : Ranks → Bool
once [] = true
once (None ∷ xs) = once xs
once (Some s ∷ xs) = not (holds s.number xs) && once xs

-- of two whole free sets, the set p of level i and the set q of level j, the left one is smaller
abbrev pub left_smaller : ℕ → Ranks → ℕ → ℕ → ℕ → ℕ → Bool
left_smaller n xs i p j q = implies (is_whole n xs i p && (is_whole n xs j q && nat_lt (p * 2 ^ i) (q * 2 ^ j))) (nat_lt i j)

-- the sizes of the whole free sets differ and grow from left to right
unfoldable pub sizes_grow : ℕ → Ranks → Bool
sizes_grow n xs = all_below (λ i. all_below (λ p. all_below (λ j. all_below (left_smaller n xs i p j) (2 ^ n)) (suc n)) (2 ^ n)) (suc n)
