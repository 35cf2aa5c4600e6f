-- The sizes of all sessions together.
use Rattle.std.proofs.Common.{◌≡◌, ℕ, zero, suc, ◌+◌, ◌-◌, ◌^◌, ◌≤◌, length, take, None, sum_by, sym, refl, ap, ◌∙◌, inl, inr, arith}
use Rattle.std.specs.List.Sorted.{IsPermutation}
use Rattle.std.proofs.lemmas.List.{take_all}
use Rattle.std.proofs.lemmas.List.Sums.{sum_by_more}
use Rattle.std.proofs.lemmas.List.Sorted.{sum_by-IsPermutation, length_permutation}
use Rattle.std.proofs.lemmas.Bool.{cases_eq}
use Rattle.book.specs.Entries.{size_at, size_of, Ranks}
use Rattle.book.specs.Sound.{Sound}
use Rattle.book.proofs.Views.{total}

total_sum : (xs : Ranks) (m : ℕ) → m ≤ length xs → total (size_at xs) m ≡ sum_by size_of (take m xs)
total_sum xs zero h = refl
total_sum xs (suc m) h =
    let a = sum_by_more size_of xs m None (omega arith) in
    let e : m + 1 ≡ suc m = omega arith in
    let b = ap (λ k. sum_by size_of (take k xs)) e in
    omega (arith, a, b, total_sum xs m (omega arith))

total_beyond : (f : ℕ → ℕ) (m d k : ℕ) → d + m ≡ k → ((r : ℕ) → m ≤ r → f r ≡ 0) → total f k ≡ total f m
total_beyond f m zero k e h = let z : k ≡ m = omega arith in ap (total f) z
total_beyond f m (suc d) zero e h = absurd (omega arith)
total_beyond f m (suc d) (suc k) e h = omega (arith, h k (omega arith), total_beyond f m d k (omega arith) h)

beyond : (n : ℕ) (f : ℕ → ℕ) → Sound n f → (r : ℕ) → 2 ^ n ≤ r → f r ≡ 0
beyond n f sound r l = elim (cases_eq (f r) 0) [ inl e ↦ e | inr e ↦ absurd (omega (arith, (sound.sets r (omega arith)).2)) ]

-- the sum of the sizes in a book's list
pub total_is : (n : ℕ) (xs : Ranks) → Sound n (size_at xs) → 2 ^ n ≤ length xs → total (size_at xs) (2 ^ n) ≡ sum_by size_of xs
total_is n xs sound l =
    sym (total_beyond (size_at xs) (2 ^ n) (length xs - 2 ^ n) (length xs) (omega arith) (beyond n (size_at xs) sound))
    ∙ total_sum xs (length xs) (omega arith)
    ∙ ap (sum_by size_of) (take_all (length xs) xs (omega arith))

-- it stays where places are exchanged
pub total_kept : (n : ℕ) (xs ys : Ranks) → Sound n (size_at xs) → Sound n (size_at ys) → 2 ^ n ≤ length xs → IsPermutation xs ys → total (size_at ys) (2 ^ n) ≡ total (size_at xs) (2 ^ n)
total_kept n xs ys sx sy l h =
    total_is n ys sy (omega (arith, length_permutation xs ys h)) ∙ sum_by-IsPermutation size_of xs ys h ∙ sym (total_is n xs sx l)
