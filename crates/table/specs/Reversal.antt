-- Slots and ranks: the rank of a slot is its number with its bits reversed.
use Rattle.std.specs.Prelude.{◌≡◌, ℕ, zero, suc, ◌+◌, ◌-◌, ◌*◌, ◌/◌, ◌%◌, ◌^◌, ◌<◌, ◌≤◌, ◌↔◌}

-- the low b bits of x in reverse
unfoldable pub reversed : ℕ → ℕ → ℕ
reversed zero x = 0
reversed (suc b) x = x % 2 * 2 ^ b + reversed b (x / 2)

-- slot s of 2 ^ b has a rank in the set of 2 ^ k ranks from q * 2 ^ k on
abbrev pub InSet : ℕ → ℕ → ℕ → ℕ → Type 0
InSet b k q s = (q * 2 ^ k ≤ reversed b s) × (reversed b s < q * 2 ^ k + 2 ^ k)

-- the slots of the set are exactly o, o + t, o + 2 t, .. with t = 2 ^ (b - k)
pub record Spaced (b k q o : ℕ) : Type 0 where
  pub below : o < 2 ^ (b - k)
  pub slots : (s : ℕ) → s < 2 ^ b → InSet b k q s ↔ (s % 2 ^ (b - k) ≡ o)

-- A set's slots are evenly spaced, from the slot o of its first rank on.
abbrev pub OffsetOfSet : ℕ → ℕ → ℕ → Type 0
OffsetOfSet b first o = (k q : ℕ) → k ≤ b → q < 2 ^ (b - k) → first ≡ q * 2 ^ k → Spaced b k q o

-- Evenly spaced slots from an offset o on are those of a set, which begins at the rank first of the offset.
abbrev pub SetOfOffset : ℕ → ℕ → ℕ → Type 0
SetOfOffset b o first = (k : ℕ) → k ≤ b → o < 2 ^ (b - k) → (q : ℕ) × (q < 2 ^ (b - k)) × (first ≡ q * 2 ^ k) × Spaced b k q o
