-- What is searched for among the sets of a table, by any test of which of them are free. Each stands beside the definition that a book's own
-- entries give (`Sets`, `Moves`, `Books`), and is that where the test is the entries' (`is_free`).
use Rattle.std.specs.Prelude.{ℕ, zero, suc, ◌-◌, ◌*◌, ◌/◌, ◌^◌, Bool, cond, not, ◌&&◌, None, Some, Option, ◌==◌}
use Rattle.book.specs.Searches.{first_from, last_below, when_some}
use Rattle.book.specs.Entries.{level_for}

-- which sets of a table are free, by level and index
abbrev pub FreeSets : Type 0
FreeSets = ℕ → ℕ → Bool

-- a free set that no larger free set contains
abbrev pub whole_by : FreeSets → ℕ → ℕ → Bool
whole_by free i q = free i q && not (free (suc i) (q / 2))

-- the lowest free set of level i
abbrev pub lowest_by : ℕ → FreeSets → ℕ → Option ℕ
lowest_by n free i = first_from (free i) 0 (2 ^ n / 2 ^ i)

-- the whole free set around a free one, at most k levels up, as level and index
abbrev pub climb_by : FreeSets → ℕ → ℕ → ℕ → ℕ × ℕ
climb_by free i q zero = (i, q)
climb_by free i q (suc k) = cond (free (suc i) (q / 2)) (climb_by free (suc i) (q / 2) k) (i, q)

-- the largest set of a table is of level n
abbrev pub around_by : ℕ → FreeSets → ℕ → ℕ → ℕ × ℕ
around_by n free i q = climb_by free i q (n - i)

-- another whole free set of level i than p
abbrev pub other_by : ℕ → FreeSets → ℕ → ℕ → Option ℕ
other_by n free i p = first_from (λ o. not (o == p) && whole_by free i o) 0 (2 ^ n / 2 ^ i)

-- the rightmost free rank that is in no free set of level i
abbrev pub loose_by : ℕ → FreeSets → ℕ → Option ℕ
loose_by n free i = last_below (λ r. free 0 r && not (free i (r / 2 ^ i))) (2 ^ n)

-- the first rank of the lowest free set of so many ranks
abbrev pub lowest_first_by : ℕ → FreeSets → ℕ → Option ℕ
lowest_first_by n free size = when_some (level_for n size) None (λ i. when_some (lowest_by n free i) None (λ q. Some (q * 2 ^ i)))
