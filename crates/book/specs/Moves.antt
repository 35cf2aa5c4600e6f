-- How a release moves sessions: joining makes the whole free sets differ in size, ordering makes their sizes grow from left to right.
use Rattle.std.specs.Prelude.{ℕ, zero, suc, ◌+◌, ◌-◌, ◌*◌, ◌/◌, ◌%◌, ◌^◌, cond, not, ◌&&◌, map, length, None, Option, ◌==◌, nat_le, nat_lt, slice_index_or, slice_set}
use Rattle.std.specs.List.{range_with_len}
use Rattle.book.specs.Searches.{first_from, last_below, when_some}
use Rattle.book.specs.Entries.{Ranks}
use Rattle.book.specs.Sets.{is_free, is_whole}

-- the whole free set around a free one, at most k levels up, as level and index
abbrev pub climb : ℕ → Ranks → ℕ → ℕ → ℕ → ℕ × ℕ
climb n xs i q zero = (i, q)
climb n xs i q (suc k) = cond (is_free n xs (suc i) (q / 2)) (climb n xs (suc i) (q / 2) k) (i, q)

-- the largest set of a table is of level n
abbrev pub whole_around : ℕ → Ranks → ℕ → ℕ → ℕ × ℕ
whole_around n xs i q = climb n xs i q (n - i)

-- another whole free set of level i than p
abbrev pub other_whole : ℕ → Ranks → ℕ → ℕ → Option ℕ
other_whole n xs i p = first_from (λ o. not (o == p) && is_whole n xs i o) 0 (2 ^ n / 2 ^ i)

-- the set that together with the set q is one of double size
abbrev pub brother : ℕ → ℕ
brother q = cond (q % 2 == 0) (q + 1) (q - 1)

-- where the exchange of the m ranks from f on with those from g on takes the entry of rank r from
abbrev pub source : ℕ → ℕ → ℕ → ℕ → ℕ
source f g m r = cond (nat_le f r && nat_lt r (f + m)) (g + (r - f)) (cond (nat_le g r && nat_lt r (g + m)) (f + (r - g)) r)

-- the exchange of those ranks
abbrev pub exchanged : Ranks → ℕ → ℕ → ℕ → Ranks
exchanged xs f g m = map (λ r. slice_index_or xs (source f g m r) None) (range_with_len 0 (length xs))

-- the exchange of the sets p and q of level i: every session inside either moves to the same offset in the other
abbrev pub exchanged_sets : Ranks → ℕ → ℕ → ℕ → Ranks
exchanged_sets xs i p q = exchanged xs (p * 2 ^ i) (q * 2 ^ i) (2 ^ i)

-- Joining from the start set p of level i on, in k steps at most: where another whole free set of its size exists, the start set is exchanged
-- with that other's brother, and the whole free set that then contains the other is the new start set.
abbrev pub joining : ℕ → Ranks → ℕ → ℕ → ℕ → Ranks
joining n xs i p zero = xs
joining n xs i p (suc k) = when_some (other_whole n xs i p) xs (λ o.
    let ys = exchanged_sets xs i p (brother o) in
    let w = whole_around n ys (suc i) (o / 2) in
    joining n ys w.0 w.1 k)

-- each step makes the start set larger, so n steps are enough
abbrev pub joined : ℕ → Ranks → ℕ → ℕ → Ranks
joined n xs i p = joining n xs i p n

-- the rightmost free rank that is in no free set of level i: it is in the rightmost smaller whole free set
abbrev pub loose_rank : ℕ → Ranks → ℕ → Option ℕ
loose_rank n xs i = last_below (λ r. is_free n xs 0 r && not (is_free n xs i (r / 2 ^ i))) (2 ^ n)

-- Ordering at level i: where smaller whole free sets lie to the right of the whole free set of this level, it is exchanged with the set of its
-- size that contains the rightmost of them. No set has the index 2 ^ n, so every whole free set of the level is another than that.
abbrev pub ordered_at : ℕ → Ranks → ℕ → Ranks
ordered_at n xs i =
    when_some (other_whole n xs i (2 ^ n)) xs (λ p.
    when_some (loose_rank n xs i) xs (λ r.
    cond (nat_lt p (r / 2 ^ i)) (exchanged_sets xs i p (r / 2 ^ i)) xs))

-- ordering at the levels below k, from the largest sets down
abbrev pub ordering : ℕ → Ranks → ℕ → Ranks
ordering n xs zero = xs
ordering n xs (suc k) = ordering n (ordered_at n xs k) k

-- ordering at all levels
abbrev pub ordered : ℕ → Ranks → Ranks
ordered n xs = ordering n xs (suc n)

-- the end of the session at rank f, whose set is of level j
abbrev pub released_set : ℕ → Ranks → ℕ → ℕ → Ranks
released_set n xs j f =
    let ys = slice_set xs f None in
    let w = whole_around n ys j (f / 2 ^ j) in
    ordered n (joined n ys w.0 w.1)
