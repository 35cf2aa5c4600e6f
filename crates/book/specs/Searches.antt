-- Tests tried on numbers in a row.
use Rattle.std.specs.Prelude.{ℕ, zero, suc, ◌+◌, Bool, true, cond, ◌&&◌, Some, None, Option}

-- how many numbers below k pass
abbrev pub count : (ℕ → Bool) → ℕ → ℕ
count test zero = 0
count test (suc k) = cond (test k) 1 0 + count test k

-- every number below k passes
abbrev pub all_below : (ℕ → Bool) → ℕ → Bool
all_below test zero = true
all_below test (suc k) = test k && all_below test k

-- the first of the k numbers from i on that passes
abbrev pub first_from : (ℕ → Bool) → ℕ → ℕ → Option ℕ
first_from test i zero = None
first_from test i (suc k) = cond (test i) (Some i) (first_from test (suc i) k)

-- the last number below k that passes
abbrev pub last_below : (ℕ → Bool) → ℕ → Option ℕ
last_below test zero = None
last_below test (suc k) = cond (test k) (Some k) (last_below test k)

-- what is done with the number that was found, or else what stands instead
abbrev pub when_some : {A : Type 0} → Option ℕ → A → (ℕ → A) → A
when_some None other then = other
when_some (Some x) other then = then x
