-- Sums over slots are sums over ranks: each rank is that of one slot.
use Rattle.std.proofs.Common.{◌≡◌, ℕ, zero, suc, ◌+◌, ◌-◌, ◌*◌, ◌/◌, ◌%◌, ◌^◌, ◌<◌, ◌≤◌, min, cond, ◌&&◌, ltb, leb, sym, refl, ap, ◌∙◌, inl, inr, pow-suc, arith}
use Rattle.std.proofs.lemmas.Bool.{cases_lt, cond-true, cond-false, and_from, and_left, and_right, le-leb, lt-leb, lt-ltb, le-ltb}
use Rattle.table.specs.Reversal.{reversed}
use Rattle.table.specs.Services.{total}
use Rattle.book.specs.Laws.{sum_below}

pub sum_same : (k : ℕ) (f g : ℕ → ℕ) → ((s : ℕ) → s < k → f s ≡ g s) → sum_below f k ≡ sum_below g k
sum_same zero f g h = refl
sum_same (suc k) f g h = omega (arith, h k (omega arith), sum_same k f g (λ s l. h s (omega arith)))

sum_split : (f : ℕ → ℕ) (a b c : ℕ) → a + b ≡ c → sum_below f c ≡ sum_below f a + sum_below (λ r. f (a + r)) b
sum_split f a zero c e = let z : c ≡ a = omega arith in omega (arith, ap (sum_below f) z)
sum_split f a (suc b) zero e = absurd (omega arith)
sum_split f a (suc b) (suc c) e =
    let z : c ≡ a + b = omega arith in
    omega (arith, ap f z, sum_split f a b c (omega arith))

-- even and odd numbers apart
sum_double : (g : ℕ → ℕ) (m k : ℕ) → k ≡ 2 * m → sum_below g k ≡ sum_below (λ q. g (2 * q)) m + sum_below (λ q. g (2 * q + 1)) m
sum_double g zero zero e = refl
sum_double g zero (suc k) e = absurd (omega arith)
sum_double g (suc m) zero e = absurd (omega arith)
sum_double g (suc m) (suc zero) e = absurd (omega arith)
sum_double g (suc m) (suc (suc k)) e =
    let y : k ≡ 2 * m = omega arith in
    let z : suc k ≡ 2 * m + 1 = omega arith in
    omega (arith, ap g y, ap g z, sum_double g m k (omega arith))

pub sum_reversed : (n : ℕ) (f : ℕ → ℕ) → sum_below (λ s. f (reversed n s)) (2 ^ n) ≡ sum_below f (2 ^ n)
unfolding reversed
sum_reversed zero f = refl
sum_reversed (suc k) f =
    let e : 2 ^ suc k ≡ 2 * 2 ^ k = pow-suc 2 k ∙ omega arith in
    let a = sum_double (λ s. f (reversed (suc k) s)) (2 ^ k) (2 ^ suc k) e in
    let b = sum_same (2 ^ k) (λ q. f (reversed (suc k) (2 * q))) (λ q. f (reversed k q)) (λ q _. ap f (even q)) in
    let c = sum_same (2 ^ k) (λ q. f (reversed (suc k) (2 * q + 1))) (λ q. f (2 ^ k + reversed k q)) (λ q _. ap f (odd q)) in
    omega (arith, a, b, c, sum_reversed k f, sum_reversed k (λ r. f (2 ^ k + r)), sum_split f (2 ^ k) (2 ^ k) (2 ^ suc k) (omega arith))
  where
    even : (q : ℕ) → reversed (suc k) (2 * q) ≡ reversed k q
    even q =
        let x : 2 * q % 2 ≡ 0 = omega arith in
        let y : 2 * q / 2 ≡ q = omega arith in
        omega (arith, ap (λ b. b * 2 ^ k) x, ap (reversed k) y)

    odd : (q : ℕ) → reversed (suc k) (2 * q + 1) ≡ 2 ^ k + reversed k q
    odd q =
        let x : (2 * q + 1) % 2 ≡ 1 = omega arith in
        let y : (2 * q + 1) / 2 ≡ q = omega arith in
        omega (arith, ap (λ b. b * 2 ^ k) x, ap (reversed k) y)

-- one more at the end of a sum
total_more : (f : ℕ → ℕ) (first m : ℕ) → total f first (suc m) ≡ total f first m + f (first + m)
total_more f first zero = let z : first + 0 ≡ first = omega arith in omega (arith, ap f z)
total_more f first (suc m) =
    let z : suc first + m ≡ first + suc m = omega arith in
    omega (arith, total_more f (suc first) m, ap f z)

-- the part of a sum that m numbers in a row have
sum_row : (f : ℕ → ℕ) (first m k : ℕ) → sum_below (λ r. cond (leb first r && ltb r (first + m)) (f r) 0) k ≡ total f first (min (k - first) m)
sum_row f first m zero = let z : min (0 - first) m ≡ 0 = omega arith in ap (total f first) (sym z)
sum_row f first m (suc k) =
    elim (cases_lt k first) [
      | inl l ↦
          let z : min (suc k - first) m ≡ min (k - first) m = omega arith in
          omega (arith, ap (total f first) z, sum_row f first m k, cond-false {A = ℕ} (leb first k && ltb k (first + m)) (f k) 0 (and_left (leb first k) (ltb k (first + m)) (lt-leb first k l)))
      | inr l ↦ elim (cases_lt k (first + m)) [
        | inl h ↦
            let z : min (suc k - first) m ≡ suc (k - first) = omega arith in
            let y : min (k - first) m ≡ k - first = omega arith in
            let w : first + (k - first) ≡ k = omega arith in
            omega (
              arith,
              ap (total f first) z,
              ap (total f first) y,
              total_more f first (k - first),
              ap f w,
              sum_row f first m k,
              cond-true {A = ℕ} (leb first k && ltb k (first + m)) (f k) 0 (and_from (leb first k) (ltb k (first + m)) (le-leb first k l) (lt-ltb k (first + m) h)),
            )
        | inr h ↦
            let z : min (suc k - first) m ≡ min (k - first) m = omega arith in
            omega (arith, ap (total f first) z, sum_row f first m k, cond-false {A = ℕ} (leb first k && ltb k (first + m)) (f k) 0 (and_right (leb first k) (ltb k (first + m)) (le-ltb k (first + m) h)))
      ]
    ]

pub sum_set : (f : ℕ → ℕ) (first m k : ℕ) → first + m ≤ k → sum_below (λ r. cond (leb first r && ltb r (first + m)) (f r) 0) k ≡ total f first m
sum_set f first m k l = let z : min (k - first) m ≡ m = omega arith in sum_row f first m k ∙ ap (total f first) z
