-- The book of a port: what its calls answer, and what it is after them. Who uses books imports from here.
use Rattle.std.specs.Prelude.{ℕ, ◌*◌, ◌^◌, cond, not, ◌&&◌, replicate, Some, None, Option, slice_index_or, slice_set}
use Rattle.book.specs.declared.session.Session.{Session}
use Rattle.book.specs.Searches.{count, when_some}
use Rattle.book.specs.Entries.{size_of, level_for, place_of}
use Rattle.book.specs.Sets.{is_free, lowest_free}
use Rattle.book.specs.Moves.{released_set}
unfoldable pub use Rattle.book.specs.Entries.{Ranks, grant_of, fits, holds}
unfoldable pub use Rattle.book.specs.Slots.{contents, differ, changed_slots, written}

-- a book of 2 ^ n ranks without sessions
abbrev pub empty_ranks : ℕ → Ranks
empty_ranks n = replicate (2 ^ n) None

-- how many ranks no session holds
unfoldable pub free_ranks : ℕ → Ranks → ℕ
free_ranks n xs = count (is_free n xs 0) (2 ^ n)

-- the first rank of the lowest free set of so many ranks
unfoldable pub lowest_first : ℕ → Ranks → ℕ → Option ℕ
lowest_first n xs size = when_some (level_for n size) None (λ i. when_some (lowest_free n xs i) None (λ q. Some (q * 2 ^ i)))

-- where a session is put: the lowest free set of its size, if it is one that a book takes and its number is new
unfoldable pub place_for : ℕ → Ranks → Session → Option ℕ
place_for n xs s = cond (fits n s && not (holds s.number xs)) (lowest_first n xs s.size) None

-- the book after a session is put there, unchanged where it has no place
unfoldable pub filled : ℕ → Ranks → Session → Ranks
filled n xs s = when_some (place_for n xs s) xs (λ f. slice_set xs f (Some s))

-- the book after the session at rank f ends: joining, then ordering
unfoldable pub released_at : ℕ → Ranks → ℕ → Ranks
released_at n xs f = when_some (level_for n (size_of (slice_index_or xs f None))) xs (λ j. released_set n xs j f)

-- the book after the session of this number ends, unchanged where it has none
unfoldable pub released : ℕ → Ranks → ℕ → Ranks
released n xs number = when_some (place_of number xs) xs (released_at n xs)
