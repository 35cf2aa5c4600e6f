-- The laws of reversal, over the number of bits.
use Rattle.std.proofs.Common.{◌≡◌, ℕ, zero, suc, ◌+◌, ◌-◌, ◌*◌, ◌/◌, ◌%◌, ◌^◌, ◌<◌, ◌≤◌, ◌↔◌, sym, refl, ap, ◌∙◌, subst, add-zero, add-suc, mul_assoc, add-mul, add_comm, pow-suc, arith}
use native.Mathlib.Nat.{pow-succ'}
use Rattle.std.proofs.lemmas.Nat.{pow_pos, pow-add, mul-le, mod_below, shr_split, mod_low}
use Rattle.table.specs.Reversal.{reversed, InSet, Spaced, OffsetOfSet, SetOfOffset}

pub reversed_below : (b x : ℕ) → reversed b x < 2 ^ b
unfolding reversed
reversed_below zero x = omega arith
reversed_below (suc b) x = omega (arith, reversed_below b (x / 2), mul-le (x % 2) (2 ^ b) 1 (2 ^ b) (omega arith) (omega arith))

-- no bit left
pub reversed_none : (x : ℕ) → reversed 0 x ≡ 0
unfolding reversed
reversed_none x = refl

-- one turn of the loop moves the lowest bit over
pub turn : (m out x : ℕ) → out * 2 ^ suc m + reversed (suc m) x ≡ (out * 2 + x % 2) * 2 ^ m + reversed m (x / 2)
unfolding reversed
turn m out x = omega (arith, ap (λ p. out * p) (pow-succ' 2 m), mul_assoc out 2 (2 ^ m), add-mul (out * 2) (x % 2) (2 ^ m))

-- one bit more at the low end
shifted : (q k r : ℕ) → q * 2 ^ suc k + r ≡ 2 * (q * 2 ^ k + r / 2) + r % 2
shifted q k r = rw pow-suc (omega arith)

-- the low bits come first, reversed, and then the high ones
reversed_split : (j k q r : ℕ) → r < 2 ^ k → reversed (j + k) (q * 2 ^ k + r) ≡ reversed k r * 2 ^ j + reversed j q
unfolding reversed
reversed_split j zero q r l = rw add-zero (ap (reversed j) {y = q} (omega arith) ∙ omega arith)
reversed_split j (suc k) q r l = rw add-suc (omega (arith, low, ap (reversed (j + k)) {y = q * 2 ^ k + r / 2} half, reversed_split j k q (r / 2) (omega arith)))
  where
    half : (q * 2 ^ suc k + r) / 2 ≡ q * 2 ^ k + r / 2
    half = omega (arith, shifted q k r)

    low : (q * 2 ^ suc k + r) % 2 * 2 ^ (j + k) ≡ r % 2 * 2 ^ k * 2 ^ j
    low = rw pow-add (ap (λ x. x * (2 ^ j * 2 ^ k)) {y = r % 2} (omega (arith, shifted q k r)) ∙ omega arith)

pub reversed_twice : (b x : ℕ) → x < 2 ^ b → reversed b (reversed b x) ≡ x
unfolding reversed
reversed_twice zero x l = omega arith
reversed_twice (suc b) x l = ap (λ n. reversed n (reversed (suc b) x)) {x = suc b} {y = 1 + b} (omega arith) ∙ reversed_split 1 b (x % 2) (reversed b (x / 2)) (reversed_below b (x / 2)) ∙ omega (arith, reversed_twice b (x / 2) (omega arith))

-- the rank of a slot of the offset that belongs to the set q
rank_in : (j k q s : ℕ) → q < 2 ^ j → s % 2 ^ j ≡ reversed j q → reversed (j + k) s ≡ q * 2 ^ k + reversed k (s / 2 ^ j)
rank_in j k q s l e = ap (λ n. reversed n s) (add_comm j k) ∙ ap (reversed (k + j)) (sym (shr_split s j)) ∙ reversed_split k j (s / 2 ^ j) (s % 2 ^ j) (mod_below s (2 ^ j) (pow_pos j))
    ∙ ap (λ x. x * 2 ^ k + reversed k (s / 2 ^ j)) (ap (reversed j) e ∙ reversed_twice j q l)

-- the same with b for the sum of j and k
in_set : (b j k q s : ℕ) → j + k ≡ b → q < 2 ^ j → s < 2 ^ b → InSet b k q s ↔ (s % 2 ^ j ≡ reversed j q)
in_set b j k q s is l below = subst (λ n. s < 2 ^ n → InSet n k q s ↔ (s % 2 ^ j ≡ reversed j q)) is (λ h. (into h, back)) below
  where
    into : s < 2 ^ (j + k) → InSet (j + k) k q s → s % 2 ^ j ≡ reversed j q
    into h (lo, hi) =
        let r : ℕ = reversed (j + k) s in
        ap (λ x. x % 2 ^ j)
        (sym (reversed_twice (j + k) s h) ∙ ap (reversed (j + k)) {x = r} {y = q * 2 ^ k + (r - q * 2 ^ k)} (omega arith) ∙ reversed_split j k q (r - q * 2 ^ k) (omega arith))
        ∙ mod_low (reversed k (r - q * 2 ^ k)) j (reversed j q) (reversed_below j q)

    back : s % 2 ^ j ≡ reversed j q → InSet (j + k) k q s
    back e = (omega (arith, rank_in j k q s l e), omega (arith, rank_in j k q s l e, reversed_below k (s / 2 ^ j)))

-- the set q of 2 ^ k ranks has the slots of the offset  reversed (b - k) q
set_spaced : (b k q : ℕ) → k ≤ b → q < 2 ^ (b - k) → Spaced b k q (reversed (b - k) q)
set_spaced b k q h l = record { below = reversed_below (b - k) q; slots = λ s below. in_set b (b - k) k q s (omega arith) l below }

reversed_zero : (b : ℕ) → reversed b 0 ≡ 0
unfolding reversed
reversed_zero zero = refl
reversed_zero (suc b) = omega (arith, reversed_zero b)

-- and that is the slot of its first rank
first_slot : (b j k q : ℕ) → j + k ≡ b → reversed b (q * 2 ^ k) ≡ reversed j q
first_slot b j k q is =
    subst (λ n. reversed n (q * 2 ^ k) ≡ reversed j q) is
    (ap (reversed (j + k)) {x = q * 2 ^ k} {y = q * 2 ^ k + 0} (omega arith) ∙ reversed_split j k q 0 (pow_pos k) ∙ omega (arith, ap (λ x. x * 2 ^ j) (reversed_zero k)))

pub offset_of_set : (b first : ℕ) → OffsetOfSet b first (reversed b first)
offset_of_set b first k q h l is =
    subst (Spaced b k q) (sym (ap (reversed b) is ∙ first_slot b (b - k) k q (omega arith))) (set_spaced b k q h l)

-- the rank of an offset begins a set
first_rank : (b j k o : ℕ) → j + k ≡ b → o < 2 ^ j → reversed b o ≡ reversed j o * 2 ^ k
first_rank b j k o is l =
    ap (λ n. reversed n o) {x = b} {y = k + j} (omega arith) ∙ ap (reversed (k + j)) {x = o} {y = 0 * 2 ^ j + o} (omega arith) ∙ reversed_split k j 0 o l ∙ omega (arith, reversed_zero k)

pub set_of_offset : (b o : ℕ) → SetOfOffset b o (reversed b o)
set_of_offset b o k h l =
    let q : ℕ = reversed (b - k) o in
    (q, reversed_below (b - k) o, first_rank b (b - k) k o (omega arith) l, subst (Spaced b k q) (reversed_twice (b - k) o l) (set_spaced b k q h (reversed_below (b - k) o)))
