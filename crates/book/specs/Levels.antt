-- Free sets by level and index: the q-th set of level i is the set of the ranks whose i-fold half is q. The proofs go by this view.
use Rattle.std.specs.Prelude.{◌≡◌, ℕ, zero, suc, ◌+◌, ◌*◌, ◌/◌, ◌%◌, ◌≤◌, cond, ◌==◌, ◌≢◌}
use Rattle.book.specs.Entries.{Ranks, size_at}
use Rattle.book.specs.Sound.{FreeRank}

-- the rank is free in the book
abbrev pub FreeIn : ℕ → Ranks → ℕ → Type 0
FreeIn n xs = FreeRank n (size_at xs)

-- the set of level i that holds rank r has the index  up i r
abbrev pub up : ℕ → ℕ → ℕ
up zero r = r
up (suc i) r = up i (r / 2)

-- every rank of the q-th set of level i is free
abbrev pub Free : (ℕ → Type 0) → ℕ → ℕ → Type 0
Free F zero q = F q
Free F (suc i) q = Free F i (2 * q) × Free F i (2 * q + 1)

-- and no larger set around it is free
abbrev pub Whole : (ℕ → Type 0) → ℕ → ℕ → Type 0
Whole F i q = Free F i q × (Free F (suc i) (q / 2) → ⊥)

-- where the exchange of the sets p and q takes the set a, d levels further down
abbrev pub sw : ℕ → ℕ → ℕ → ℕ → ℕ
sw p q zero a = cond (a == p) q (cond (a == q) p a)
sw p q (suc d) a = 2 * sw p q d (a / 2) + a % 2

-- whole sets differ in size
abbrev pub Differ : (ℕ → Type 0) → Type 0
Differ F = (i p q : ℕ) → Whole F i p → Whole F i q → p ≡ q

-- and grow from left to right
abbrev pub Grow : (ℕ → Type 0) → Type 0
Grow F = (i j d p q : ℕ) → d + i ≡ j → Whole F i p → Whole F j q → up d p ≤ q

-- whole sets differ in size but for the start set, p of level s
abbrev pub Others : (ℕ → Type 0) → ℕ → ℕ → Type 0
Others F s p = (i x y : ℕ) → Whole F i x → Whole F i y → (i ≡ s → x ≢ p) → (i ≡ s → y ≢ p) → x ≡ y

-- every smaller whole set is left of a whole one of level k or more
abbrev pub GrowFrom : (ℕ → Type 0) → ℕ → Type 0
GrowFrom F k = (i j d p q : ℕ) → k ≤ j → d + i ≡ j → Whole F i p → Whole F j q → up d p ≤ q

-- q doubled i times: the first rank of the q-th set of level i
abbrev pub dbl : ℕ → ℕ → ℕ
dbl zero q = q
dbl (suc i) q = dbl i (2 * q)

-- some rank of the set q of level i, or of its brother, is free
abbrev pub Beside : ℕ → Ranks → ℕ → ℕ → Type 0
Beside n xs i q = (r : ℕ) × FreeIn n xs r × (up (suc i) r ≡ q / 2)
