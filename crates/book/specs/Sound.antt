-- What every book keeps between calls, in words of sets: its sessions hold disjoint sets, its whole free sets differ in size, and those sizes grow
-- from left to right. A book of 2 ^ n ranks is told by the size of the session whose set begins at each rank, 0 where none begins.
use Rattle.std.specs.Prelude.{◌≡◌, ℕ, ◌+◌, ◌%◌, ◌^◌, ◌<◌, ◌≤◌}

-- the session at f holds the rank r
abbrev pub Holds : (ℕ → ℕ) → ℕ → ℕ → Type 0
Holds size f r = (f ≤ r) × (r < f + size f)

-- no session holds the rank r
abbrev pub FreeRank : ℕ → (ℕ → ℕ) → ℕ → Type 0
FreeRank n size r = (r < 2 ^ n) × ((f : ℕ) → Holds size f r → ⊥)

-- a set: m ranks, a power of two, from a multiple of m on
abbrev pub Set : ℕ → ℕ → ℕ → Type 0
Set n first m = ((i : ℕ) × (m ≡ 2 ^ i)) × (first % m ≡ 0) × (first + m ≤ 2 ^ n)

-- no session holds a rank of it
abbrev pub FreeSet : ℕ → (ℕ → ℕ) → ℕ → ℕ → Type 0
FreeSet n size first m = (r : ℕ) → first ≤ r → r < first + m → FreeRank n size r

-- a free set that no larger free set contains
abbrev pub WholeSet : ℕ → (ℕ → ℕ) → ℕ → ℕ → Type 0
WholeSet n size first m =
    Set n first m
    × FreeSet n size first m
    × ((g l : ℕ) → Set n g l → m < l → g ≤ first → first + m ≤ g + l → FreeSet n size g l → ⊥)

-- sessions hold disjoint sets
pub record Sound (n : ℕ) (size : ℕ → ℕ) : Type 0 where
  pub sets : (f : ℕ) → 0 < size f → Set n f (size f)
  pub apart : (f g r : ℕ) → Holds size f r → Holds size g r → f ≡ g

-- of two whole free sets the left one is smaller: they differ in size, and the sizes grow from left to right
abbrev pub Ordered : ℕ → (ℕ → ℕ) → Type 0
Ordered n size = (f m g l : ℕ) → WholeSet n size f m → WholeSet n size g l → f < g → m < l

-- whole free sets differ in size
abbrev pub Distinct : ℕ → (ℕ → ℕ) → Type 0
Distinct n size = (f g m : ℕ) → WholeSet n size f m → WholeSet n size g m → f ≡ g
