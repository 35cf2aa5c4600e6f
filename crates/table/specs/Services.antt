-- From a service level and the weight asked for to a spacing, a size, a grant and the weight of each rank.
use Rattle.std.specs.Prelude.{◌≡◌, ℕ, zero, suc, ◌+◌, ◌*◌, ◌/◌, ◌%◌, ◌^◌, ◌≤◌, max, Bool, cond, ◌&&◌, List, [], ◌∷◌, length, Some, None, Ok, Err, Option, Result, nat_le, nat_lt, slice_index}
use Rattle.table.specs.declared.refusal.Reason.{Reason}
use Rattle.table.specs.declared.refusal.Reason.TheVariants.{BadLevel, BadWeight}
use Rattle.table.specs.declared.service.Service.{Service}
use Rattle.table.specs.Slots.{bits, slots, most_weight}

-- the most slots from one turn of a session to its next, by its service level; further levels carry no guarantee
abbrev pub distances : List ℕ
distances = 64 ∷ 32 ∷ 22 ∷ 16 ∷ 13 ∷ 11 ∷ 10 ∷ 8 ∷ 7 ∷ 6 ∷ 5 ∷ 4 ∷ 3 ∷ 2 ∷ []

-- In a table of 2 ^ b slots, turns t apart keep the distance, and there are enough of them to carry the weight.
pub record Serves (b distance weight t : ℕ) : Type 0 where
  pub near : t ≤ distance
  pub carried : weight ≤ most_weight * (2 ^ b / t)

-- the spacing: the largest power of two that serves
pub record IsSpacing (b distance weight t : ℕ) : Type 0 where
  pub power : (k : ℕ) × (k ≤ b) × (t ≡ 2 ^ k)
  pub serves : Serves b distance weight t
  pub largest : (k : ℕ) → k ≤ b → Serves b distance weight (2 ^ k) → 2 ^ k ≤ t

-- the same as a test
abbrev pub serves : ℕ → ℕ → ℕ → ℕ → Bool
serves b distance weight t = nat_le t distance && nat_le weight (most_weight * (2 ^ b / t))

-- the largest power of two up to 2 ^ k that passes; 1 where no larger one does
abbrev pub largest_power : (ℕ → Bool) → ℕ → ℕ
largest_power test zero = 1
largest_power test (suc k) = cond (test (2 ^ suc k)) (2 ^ suc k) (largest_power test k)

-- the spacing in a table of 2 ^ b slots
unfoldable pub spacing : ℕ → ℕ → ℕ → ℕ
spacing b distance weight = largest_power (serves b distance weight) b

-- how many slots a session of spacing t has in a table of 2 ^ b slots
abbrev pub size_of : ℕ → ℕ → ℕ
size_of b t = 2 ^ b / t

-- each slot carries at least one unit
abbrev pub granted : ℕ → ℕ → ℕ
granted weight size = max weight size

-- Of the m ranks of a set, in rising order from a multiple of m on, the first (grant mod m) carry one unit more than the others.
abbrev pub weight_at : ℕ → ℕ → ℕ → ℕ
weight_at grant m rank = grant / m + cond (nat_lt (rank % m) (grant % m)) 1 0

-- the same where m slots can carry the grant, each between 1 unit and the most
abbrev pub weight_in : ℕ → ℕ → ℕ → Option ℕ
weight_in grant m rank = cond (nat_le 1 m && (nat_le m grant && nat_le grant (most_weight * m))) (Some (weight_at grant m rank)) None

-- the sum of f at first, first + 1, .., n of them
abbrev pub total : (ℕ → ℕ) → ℕ → ℕ → ℕ
total f first zero = 0
total f first (suc n) = f first + total f (suc first) n

-- The weights of a set's ranks are 1 to 255 units each and add up to the grant.
pub record Carries (grant m : ℕ) : Type 0 where
  pub least : (rank : ℕ) → 1 ≤ weight_at grant m rank
  pub most : (rank : ℕ) → weight_at grant m rank ≤ most_weight
  pub sum : (q : ℕ) → total (weight_at grant m) (q * m) m ≡ grant

-- what a level and a weight are given in a table of 2 ^ b slots
abbrev pub service_in : ℕ → ℕ → ℕ → Service
service_in b distance weight =
    let t = spacing b distance weight in
    record { spacing = t; size = size_of b t; grant = granted weight (size_of b t) }

-- the level must carry a guarantee, and the weight be 1 to the most that the table carries
abbrev pub service_for : ℕ → ℕ → Result Service Reason
service_for level weight =
    cond (nat_lt level (length distances))
    (cond (nat_le 1 weight && nat_le weight (most_weight * slots))
    (Ok (service_in bits (slice_index distances level) weight))
    (Err BadWeight))
    (Err BadLevel)

-- what is promised of a service that is given: its spacing is the rule's, its slots are as many as fit, and its weights carry its grant
pub record Served (level weight : ℕ) (s : Service) : Type 0 where
  pub spacing : IsSpacing bits (slice_index distances level) weight s.spacing
  pub turns : s.spacing * s.size ≡ slots
  pub grant : s.grant ≡ granted weight s.size
  pub carries : Carries s.grant s.size
