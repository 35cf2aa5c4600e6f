-- Doubling and halving numbers i times.
use Rattle.std.proofs.Common.{◌≡◌, ℕ, zero, suc, ◌+◌, ◌*◌, ◌/◌, ◌<◌, refl, ap, ◌∙◌, arith}
use Rattle.book.specs.Levels.{up, dbl}

pub dbl_add : (i a b : ℕ) → dbl i (a + b) ≡ dbl i a + dbl i b
dbl_add zero a b = refl
dbl_add (suc i) a b = let e : 2 * (a + b) ≡ 2 * a + 2 * b = omega arith in ap (dbl i) e ∙ dbl_add i (2 * a) (2 * b)

pub dbl_two : (i a : ℕ) → dbl i (2 * a) ≡ 2 * dbl i a
dbl_two i a = let e : 2 * a ≡ a + a = omega arith in let h = ap (dbl i) e ∙ dbl_add i a a in omega arith

pub dbl_dbl : (i j k a : ℕ) → i + j ≡ k → dbl k a ≡ dbl i (dbl j a)
dbl_dbl i zero k a e = let z : k ≡ i = omega arith in ap (λ x. dbl x a) z
dbl_dbl i (suc j) zero a e = absurd (omega arith)
dbl_dbl i (suc j) (suc k) a e = dbl_dbl i j k (2 * a) (omega arith)

pub up_dbl_add : (i c x : ℕ) → up i (dbl i c + x) ≡ c + up i x
up_dbl_add zero c x = refl
up_dbl_add (suc i) c x =
    let h : (dbl i (2 * c) + x) / 2 ≡ dbl i c + x / 2 = omega (arith, dbl_two i c) in
    ap (up i) h ∙ up_dbl_add i c (x / 2)

pub up_below : (i x : ℕ) → x < dbl i 1 → up i x ≡ 0
up_below zero x h = omega arith
up_below (suc i) x h = up_below i (x / 2) (omega (arith, dbl_two i 1))
