-- The ranks that are free, counted by bits, and the slots that differ.
use Rattle.std.proofs.Common.{◌≡◌, ℕ, zero, suc, ◌+◌, ◌-◌, ◌*◌, ◌/◌, ◌%◌, ◌^◌, ◌<◌, ◌≤◌, inl, inr, ◌&&◌, Bool, true, false, cond, not, eqb, List, [], ◌∷◌, length, filter, zip, sym, refl, ap, ◌∙◌, arith}
use Rattle.std.specs.Int.Count.{ones, ones_step}
use Rattle.std.proofs.Math.Nat.{div-div-eq-div-mul}
use Rattle.book.specs.Bits.{part, free_bits}
use Rattle.book.proofs.Room.{count_same}
use Rattle.std.proofs.lemmas.Bool.{cases_eq, eq-eqb, ne_eqb, le-leb, and_parts, eqb-true}
use Rattle.table.specs.declared.slot.Slot.{Slot}
use Rattle.table.specs.Slots.{same_slot}
use Rattle.book.specs.Searches.{count}
use Rattle.book.specs.Slots.{differ, changed_slots, written}

count_shift : (test : ℕ → Bool) (k : ℕ) → count test (suc k) ≡ cond (test 0) 1 0 + count (λ r. test (suc r)) k
count_shift test zero = refl
count_shift test (suc k) = omega (arith, count_shift test k)

-- the zeros among the k lowest bits
zeros : (k n : ℕ) → n < 2 ^ k → ones (2 ^ k - 1 - n) ≡ count (λ r. eqb (part n r 1) 0) k
unfolding ones
zeros zero n l = let e : 2 ^ 0 - 1 - n ≡ 0 = omega arith in ap ones e
zeros (suc k) n l =
    let m : ℕ = 2 ^ suc k - 1 - n in
    let test : ℕ → Bool = λ r. eqb (part n r 1) 0 in
    let half : m / 2 ≡ 2 ^ k - 1 - n / 2 = omega arith in
    let low : m % 2 ≡ 1 - n % 2 = omega arith in
    let more = count_same (λ r. test (suc r)) (λ r. eqb (part (n / 2) r 1) 0) k (λ r _. ap (λ x. eqb (x % 2 ^ 1) 0) (halved r)) in
    omega (arith, ones_step m, ap ones half, low, zeros k (n / 2) (omega arith), count_shift test k, more, lowest)
  where
    halved : (r : ℕ) → n / 2 ^ suc r ≡ n / 2 / 2 ^ r
    halved r = let e : 2 ^ suc r ≡ 2 * 2 ^ r = omega arith in ap (λ x. n / x) e ∙ sym (div-div-eq-div-mul n 2 (2 ^ r))

    lowest : cond {A = ℕ} (eqb (part n 0 1) 0) 1 0 ≡ 1 - n % 2
    lowest =
        let e : part n 0 1 ≡ n % 2 = omega arith in
        elim (cases_eq (part n 0 1) 0) [
          | inl z ↦ omega (arith, ap (λ b. cond {A = ℕ} b 1 0) (eq-eqb (part n 0 1) 0 z), z, e)
          | inr z ↦ omega (arith, ap (λ b. cond {A = ℕ} b 1 0) (ne_eqb (part n 0 1) 0 z), z, e)
        ]

-- the free ranks of a table of 2 ^ n, as the bits that are zero
pub zeros_free : (n held : ℕ) → held < 2 ^ 2 ^ n → ones (2 ^ 2 ^ n - 1 - held) ≡ count (free_bits n held 0) (2 ^ n)
unfolding free_bits
zeros_free n held l =
    zeros (2 ^ n) held l ∙ count_same (λ r. eqb (part held r 1) 0) (free_bits n held 0) (2 ^ n) (λ r u.
    let e : r * 2 ^ 0 ≡ r = omega arith in
    let z : r * 2 ^ 0 + 2 ^ 0 ≤ 2 ^ n = omega arith in
    ap (λ x. eqb (part held x 1) 0) (sym e) ∙ ap (λ b. b && eqb (part held (r * 2 ^ 0) 1) 0) (sym (le-leb (r * 2 ^ 0 + 2 ^ 0) (2 ^ n) z)))

-- the pairs of slots that differ
pub changed_zip : (old new : List Slot) → length (filter (λ (p : Slot × Slot). differ p.0 p.1) (zip old new)) ≡ changed_slots old new
unfolding changed_slots
changed_zip [] new = refl
changed_zip (a ∷ old) [] = refl
changed_zip (a ∷ old) (b ∷ new) = one (differ a b) ∙ ap (λ k. cond (differ a b) 1 0 + k) (changed_zip old new)
  where
    one : (t : Bool) → length (cond t ((a, b) ∷ filter (λ (p : Slot × Slot). differ p.0 p.1) (zip old new)) (filter (λ (p : Slot × Slot). differ p.0 p.1) (zip old new)))
        ≡ cond t 1 0 + length (filter (λ (p : Slot × Slot). differ p.0 p.1) (zip old new))
    one true = omega arith
    one false = omega arith

-- slots of one content are the same, so writing what differs gives the new table
same_slot_lem : (a b : Slot) → same_slot a b ≡ true → a ≡ b
same_slot_lem a b e =
    let p = and_parts (eqb a.lane b.lane) (eqb a.weight b.weight) e in
    let x = eqb-true a.lane b.lane p.0 in
    let y = eqb-true a.weight b.weight p.1 in
    λ i. record { lane = x i; weight = y i }

pub written_same : (old new : List Slot) → length old ≡ length new → written old old new ≡ new
unfolding written
written_same [] [] e = refl
written_same [] (b ∷ new) e = absurd (omega arith)
written_same (a ∷ old) [] e = absurd (omega arith)
written_same (a ∷ old) (b ∷ new) e = ap (λ x. x ∷ written old old new) (one (same_slot a b) refl) ∙ ap (λ xs. b ∷ xs) (written_same old new (omega arith))
  where
    one : (t : Bool) → t ≡ same_slot a b → cond (not (same_slot a b)) b a ≡ b
    one true s = ap (λ t. cond (not t) b a) (sym s) ∙ same_slot_lem a b (sym s)
    one false s = ap (λ t. cond (not t) b a) (sym s)
