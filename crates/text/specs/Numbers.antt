-- What a number's bytes are.
use Rattle.std.specs.Prelude.{◌≡◌, ℕ, ◌+◌, ◌-◌, ◌*◌, ◌≤◌, cond, List, [], ◌∷◌, Some, None, decimal, Option, ◌==◌, ◌≢◌, nat_le}
use Rattle.text.specs.Bytes.{within}

-- the highest number of a line
abbrev pub most : ℕ
most = 65535

-- the number that bytes go on to spell after digits that came to `sum`
abbrev pub digits_from : ℕ → List ℕ → Option ℕ
digits_from sum [] = Some sum
digits_from sum (b ∷ bs) = cond (within 48 57 b) (cond (nat_le (sum * 10 + (b - 48)) most) (digits_from (sum * 10 + (b - 48)) bs) None) None

-- after a zero in front nothing may follow
abbrev pub zero_then : List ℕ → Option ℕ
zero_then [] = Some 0
zero_then (b ∷ bs) = None

-- the number that a field's bytes are, or none
abbrev pub number_of : List ℕ → Option ℕ
number_of [] = None
number_of (b ∷ bs) = cond (b == 48) (zero_then bs) (digits_from 0 (b ∷ bs))

-- some number just where the bytes are its decimal spelling and it is not too high
abbrev pub Spells : List ℕ → Option ℕ → Type 0
Spells bs (Some n) = (bs ≡ decimal n) × (n ≤ most)
Spells bs None = (n : ℕ) → n ≤ most → bs ≢ decimal n
