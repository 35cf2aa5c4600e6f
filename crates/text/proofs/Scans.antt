-- How many bytes stand before one, byte by byte.
use Rattle.std.proofs.Common.{◌≡◌, ℕ, ◌+◌, List, ◌∷◌, arith, eq-eqb, ne_eqb}
use Rattle.text.specs.Bytes.{bytes_before}

pub here : (byte b : ℕ) (bs : List ℕ) → b ≡ byte → bytes_before byte (b ∷ bs) ≡ 0
here byte b bs e = rw (eq-eqb b byte e)

pub later : (byte b : ℕ) (bs : List ℕ) → (b ≡ byte → ⊥) → bytes_before byte (b ∷ bs) ≡ bytes_before byte bs + 1
later byte b bs n = rw (ne_eqb b byte n) (omega arith)
