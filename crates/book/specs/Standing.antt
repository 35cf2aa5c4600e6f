-- What every book keeps between calls, in words.
use Rattle.std.specs.Prelude.{◌≡◌, ℕ, ◌*◌, ◌^◌, ◌<◌, ◌≤◌, length, Some, None, slice_index_or}
use Rattle.table.specs.Slots.{most_weight, lane_count}
use Rattle.book.specs.declared.session.Session.{Session}
use Rattle.book.specs.Entries.{Ranks, size_at}
use Rattle.book.specs.Sound.{Sound, Ordered, Distinct}

-- A session that a book of 2 ^ n ranks takes: its size is a power of two, so many slots carry its weight, and ports have its lane.
pub record Fits (n : ℕ) (s : Session) : Type 0 where
  pub level : ℕ
  pub low : level ≤ n
  pub size_is : s.size ≡ 2 ^ level
  pub some : 1 ≤ s.weight
  pub most : s.weight ≤ most_weight * s.size
  pub lane : s.lane < lane_count

-- A table of 2 ^ n ranks, whose sessions hold disjoint sets, in whatever order.
pub record Seated (n : ℕ) (xs : Ranks) : Type 0 where
  pub long : length xs ≡ 2 ^ n
  pub sound : Sound n (size_at xs)

-- A book of 2 ^ n ranks: its sessions hold disjoint sets, no number stands twice, the whole free sets differ in size, and those sizes grow from
-- left to right.
pub record Standing (n : ℕ) (xs : Ranks) : Type 0 where
  pub long : length xs ≡ 2 ^ n
  pub fit : (f : ℕ) (s : Session) → slice_index_or xs f None ≡ Some s → Fits n s
  pub sound : Sound n (size_at xs)
  pub once : (f g : ℕ) (s t : Session) → slice_index_or xs f None ≡ Some s → slice_index_or xs g None ≡ Some t → s.number ≡ t.number → f ≡ g
  pub distinct : Distinct n (size_at xs)
  pub ordered : Ordered n (size_at xs)
