-- The four kinds of bytes in a line, and where one stands among bytes.
use Rattle.std.specs.Prelude.{ℕ, Bool, true, false, cond, List, [], ◌∷◌, ◌==◌, nat_le}
use Rattle.std.specs.List.{position_or_len}
use Rattle.text.specs.declared.bytes.Class.{Class}
use Rattle.text.specs.declared.bytes.Class.TheVariants.{Digit, Letter, Blank, Stray}

-- is a byte one of those from `low` to `high`?
abbrev pub within : ℕ → ℕ → ℕ → Bool
within low high b = cond (nat_le low b) (nat_le b high) false

-- a digit 0 to 9, a small letter a to z, a blank, or a stray byte
abbrev pub class_of : ℕ → Class
class_of b = cond (within 48 57 b) Digit (cond (within 97 122 b) Letter (cond (b == 32) Blank Stray))

-- how many bytes stand before the first that is `byte`
abbrev pub bytes_before : ℕ → List ℕ → ℕ
bytes_before byte bs = position_or_len (λ b. b == byte) bs

-- does `byte` not stand among the bytes?
abbrev pub lacks : ℕ → List ℕ → Bool
lacks byte [] = true
lacks byte (b ∷ bs) = cond (b == byte) false (lacks byte bs)
