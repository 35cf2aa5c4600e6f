-- The answer lines, and what writing one leaves in a buffer.
use Rattle.std.specs.Prelude.{◌≡◌, ℕ, ◌+◌, ◌/◌, ◌%◌, cond, List, [], ◌∷◌, ◌++◌, length, take, drop, codes, decimal, nat_lt}
use Rattle.table.specs.declared.refusal.Reason.{Reason}
use Rattle.table.specs.Refusals.{number_of}

-- a buffer with bytes written from a place on, and the rest as it was
abbrev pub put : List ℕ → ℕ → List ℕ → List ℕ
put out at bs = take at out ++ (bs ++ drop (at + length bs) out)

-- the bytes stand at `at`, `end` is where they end, and the rest of the buffer is as it was
pub record Wrote (was new : List ℕ) (at end : ℕ) (bs : List ℕ) : Type 0 where
  pub len : end ≡ at + length bs
  pub after : new ≡ put was at bs

-- numbers, each behind a blank, up to the line's end
abbrev pub numbers_text : List ℕ → List ℕ
numbers_text [] = codes "\n"
numbers_text (n ∷ ns) = codes " " ++ (decimal n ++ numbers_text ns)

-- the line of an accepted command that answers numbers
abbrev pub ok_text : List ℕ → List ℕ
ok_text ns = codes "ok" ++ numbers_text ns

-- a small hexadecimal digit
abbrev pub hex_digit : ℕ → ℕ
hex_digit x = cond (nat_lt x 10) (48 + x) (87 + x)

-- two digits a byte, the high one first
abbrev pub hex_text : List ℕ → List ℕ
hex_text [] = []
hex_text (b ∷ bs) = hex_digit (b / 16) ∷ hex_digit (b % 16) ∷ hex_text bs

-- the line of an accepted command that answers an image
abbrev pub image_text : List ℕ → List ℕ
image_text bs = codes "ok " ++ (hex_text bs ++ codes "\n")

-- the line of a refusal: its number and the place that its question names
abbrev pub no_text : Reason → ℕ → List ℕ
no_text reason place = codes "no" ++ numbers_text (number_of reason ∷ place ∷ [])
