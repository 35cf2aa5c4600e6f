-- Tests of numbers as bits.
use Rattle.std.proofs.Common.{◌≡◌, ℕ, zero, suc, ◌+◌, ◌-◌, ◌*◌, ◌/◌, ◌%◌, ◌^◌, ◌<◌, ◌≤◌, Bool, true, false, cond, ◌⊎◌, sym, refl, ap, ◌∙◌, inl, inr, mul_comm, add-mul, arith, pow_pos, pow-add, shl_exact}
use lib.Pow.{field, high, low, shl-shr, ones_lt, ones_split}
use Rattle.std.proofs.lemmas.Bool.{cases_eq, cases_Bool}
use Rattle.book.specs.Bits.{bits_of, part}

one_below : (b : Bool) (k x : ℕ) → x < 2 ^ k → cond b (2 ^ k) 0 + x < 2 ^ suc k
one_below true k x h = omega arith
one_below false k x h = omega arith

pub bits_below : (test : ℕ → Bool) (k : ℕ) → bits_of test k < 2 ^ k
bits_below test zero = omega arith
bits_below test (suc k) = one_below (test k) k (bits_of test k) (bits_below test k)

pub bits_same : (f g : ℕ → Bool) (k : ℕ) → ((r : ℕ) → r < k → f r ≡ g r) → bits_of f k ≡ bits_of g k
bits_same f g zero h = refl
bits_same f g (suc k) h = omega (arith, ap (λ b. cond {A = ℕ} b (2 ^ k) 0) (h k (omega arith)), bits_same f g k (λ r l. h r (omega arith)))

pub bits_none : (test : ℕ → Bool) (k : ℕ) → ((r : ℕ) → r < k → test r ≡ false) → bits_of test k ≡ 0
bits_none test zero h = refl
bits_none test (suc k) h = omega (arith, ap (λ b. cond {A = ℕ} b (2 ^ k) 0) (h k (omega arith)), bits_none test k (λ r l. h r (omega arith)))

pub none_bits : (test : ℕ → Bool) (k : ℕ) → bits_of test k ≡ 0 → (r : ℕ) → r < k → test r ≡ false
none_bits test zero h r l = absurd (omega arith)
none_bits test (suc k) h r l =
    elim (cases_eq r k) [
      | inl e ↦ ap test e ∙ elim (cases_Bool (test k)) [ inl t ↦ absurd (omega (arith, h, ap (λ b. cond {A = ℕ} b (2 ^ k) 0) t, pow_pos k)) | inr t ↦ t ]
      | inr e ↦ none_bits test k (omega (arith, h)) r (omega arith)
    ]

pub bits_all : (test : ℕ → Bool) (k : ℕ) → ((r : ℕ) → r < k → test r ≡ true) → bits_of test k ≡ 2 ^ k - 1
bits_all test zero h = refl
bits_all test (suc k) h = omega (arith, ap (λ b. cond {A = ℕ} b (2 ^ k) 0) (h k (omega arith)), bits_all test k (λ r l. h r (omega arith)), pow_pos k)

one_shifted : (b : Bool) (k m : ℕ) → cond b (2 ^ (k + m)) 0 ≡ cond b (2 ^ m) 0 * 2 ^ k
one_shifted true k m = pow-add 2 k m ∙ mul_comm (2 ^ k) (2 ^ m)
one_shifted false k m = omega arith

-- the bits from k on and those below
pub bits_split : (test : ℕ → Bool) (k m : ℕ) → bits_of test (k + m) ≡ bits_of (λ r. test (k + r)) m * 2 ^ k + bits_of test k
bits_split test k zero = let z : k + 0 ≡ k = omega arith in omega (arith, ap (bits_of test) z)
bits_split test k (suc m) =
    let z : k + suc m ≡ suc (k + m) = omega arith in
    let rest : ℕ = bits_of (λ r. test (k + r)) m in
    omega (arith, ap (bits_of test) z, bits_split test k m, one_shifted (test (k + m)) k m, add-mul (cond (test (k + m)) (2 ^ m) 0) rest (2 ^ k))

-- a part of the bits
pub part_bits : (test : ℕ → Bool) (k f m : ℕ) → f + m ≤ k → part (bits_of test k) f m ≡ bits_of (λ r. test (f + r)) m
part_bits test k f m l =
    let c : ℕ = k - (f + m) in
    let z : k ≡ f + (m + c) = omega arith in
    let w : ℕ = bits_of (λ r. test (f + r)) (m + c) in
    let a : bits_of test k / 2 ^ f ≡ w = ap (λ x. bits_of test x / 2 ^ f) z ∙ ap (λ x. x / 2 ^ f) (bits_split test f (m + c)) ∙ high w f (bits_below test f) in
    ap (λ x. x % 2 ^ m) (a ∙ bits_split (λ r. test (f + r)) m c) ∙ low (bits_of (λ r. test (f + (m + r))) c) m (bits_below (λ r. test (f + r)) m)

-- tests that differ only among the m numbers from s on
pub bits_change : (f g : ℕ → Bool) (k s m : ℕ) → s + m ≤ k → ((r : ℕ) → r < k → (r < s) ⊎ (s + m ≤ r) → f r ≡ g r)
    → bits_of g k + bits_of (λ r. f (s + r)) m * 2 ^ s ≡ bits_of f k + bits_of (λ r. g (s + r)) m * 2 ^ s
bits_change f g k s m l h =
    let c : ℕ = k - (s + m) in
    let z : k ≡ s + (m + c) = omega arith in
    let top = bits_same (λ r. f (s + (m + r))) (λ r. g (s + (m + r))) c (λ r u. h (s + (m + r)) (omega arith) (inr (omega arith))) in
    omega (
      arith,
      ap (bits_of f) z,
      ap (bits_of g) z,
      three f s m c,
      three g s m c,
      ap (λ x. x * 2 ^ m * 2 ^ s) top,
      bits_same f g s (λ r u. h r (omega arith) (inl u)),
    )
  where
    three : (t : ℕ → Bool) (s m c : ℕ) → bits_of t (s + (m + c)) ≡ bits_of (λ r. t (s + (m + r))) c * 2 ^ m * 2 ^ s + bits_of (λ r. t (s + r)) m * 2 ^ s + bits_of t s
    three t s m c =
        omega (
          arith,
          bits_split t s (m + c),
          ap (λ x. x * 2 ^ s) (bits_split (λ r. t (s + r)) m c),
          add-mul (bits_of (λ r. t (s + (m + r))) c * 2 ^ m) (bits_of (λ r. t (s + r)) m) (2 ^ s),
        )

-- what shifts of a number of w bits come to, which drop the bits past the last
pub part_shifts : (x m r w : ℕ) → m + r ≡ w → (x * 2 ^ r) % 2 ^ w / 2 ^ r ≡ x % 2 ^ m
part_shifts x m r w e = ap (λ y. (x * 2 ^ r) % 2 ^ y / 2 ^ r) (sym e) ∙ field (x * 2 ^ r) m r ∙ ap (λ y. y % 2 ^ m) (shl-shr x r)

pub ones_shifts : (m r f w : ℕ) → m + r ≡ w → f + m ≤ w → ((2 ^ w - 1) / 2 ^ r * 2 ^ f) % 2 ^ w ≡ (2 ^ m - 1) * 2 ^ f
ones_shifts m r f w e l =
    let a : (2 ^ w - 1) / 2 ^ r ≡ 2 ^ m - 1 = ap (λ y. (2 ^ y - 1) / 2 ^ r) (sym e) ∙ ap (λ x. x / 2 ^ r) (ones_split m r) ∙ high (2 ^ m - 1) r (ones_lt r) in
    ap (λ x. (x * 2 ^ f) % 2 ^ w) a ∙ shl_exact m f w (ones_lt m) (omega arith)
