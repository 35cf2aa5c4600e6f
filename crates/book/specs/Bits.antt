-- The ranks that sessions hold, as the bits of one number: bit r is 1 where rank r is held.
use Rattle.std.specs.Prelude.{ℕ, zero, suc, ◌+◌, ◌*◌, ◌/◌, ◌%◌, ◌^◌, Bool, cond, not, ◌&&◌, ◌==◌, nat_le}
use Rattle.book.specs.Entries.{Ranks}
use Rattle.book.specs.Sets.{is_free}

-- the numbers below k that pass, as bits
abbrev pub bits_of : (ℕ → Bool) → ℕ → ℕ
bits_of test zero = 0
bits_of test (suc k) = cond (test k) (2 ^ k) 0 + bits_of test k

-- the ranks of a table of 2 ^ n that are held
unfoldable pub held_bits : ℕ → Ranks → ℕ
held_bits n xs = bits_of (λ r. not (is_free n xs 0 r)) (2 ^ n)

-- the bits from first on, size of them
abbrev pub part : ℕ → ℕ → ℕ → ℕ
part held first size = held / 2 ^ first % 2 ^ size

-- the set q of level i lies in a table of 2 ^ n, and none of its ranks is among the held ones
unfoldable pub free_bits : ℕ → ℕ → ℕ → ℕ → Bool
free_bits n held i q = nat_le (q * 2 ^ i + 2 ^ i) (2 ^ n) && part held (q * 2 ^ i) (2 ^ i) == 0
