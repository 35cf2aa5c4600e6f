-- Exchanges of entries in a row, and the sizes and numbers of sets.
use Rattle.std.proofs.Common.{◌≡◌, ℕ, zero, suc, ◌+◌, ◌-◌, ◌*◌, ◌/◌, ◌^◌, ◌<◌, ◌≤◌, Bool, ◌⊎◌, ◌↔◌, length, get_or, None, Decides, sym, ap, ◌∙◌, inl, inr, div-mul-le_self, arith, pow_pos, pow_mono}
use Rattle.std.proofs.lemmas.Bool.{cases_eq}
use Rattle.book.proofs.Views.{Swapped}
use Rattle.book.specs.Entries.{Ranks}
use Rattle.book.specs.Levels.{up, dbl, sw, Free}
use Rattle.book.specs.Sound.{FreeSet, FreeRank}
use Rattle.std.proofs.lemmas.Bool.Decides.{Decides-like}
use Rattle.std.proofs.lemmas.Nat.{le-div, mul-le}
use Rattle.book.proofs.Counts.{dbl_pow}
use Rattle.book.proofs.Levels.{tr_left, tr_right}
use Rattle.book.proofs.Doubles.{dbl_two, dbl_add}
use Rattle.book.proofs.Places.{in_set, set_in, free_all, all_free}
use Rattle.book.proofs.Swaps.{sw_fix}

-- one more pair is exchanged
pub swapped_more : (f g m k : ℕ) (xs ys zs : Ranks) → (f + m ≤ g) ⊎ (g + m ≤ f) → k < m → Swapped f g k xs ys
    → length zs ≡ length ys → get_or zs (f + k) None ≡ get_or ys (g + k) None → get_or zs (g + k) None ≡ get_or ys (f + k) None
    → ((r : ℕ) → (r ≡ f + k → ⊥) → (r ≡ g + k → ⊥) → get_or zs r None ≡ get_or ys r None)
    → Swapped f g (k + 1) xs zs
swapped_more f g m k xs ys zs apart lt h len a b other =
    record {
      len = len ∙ h.len;
      left = λ i l. elim (cases_eq i k) [
        | inl e ↦ ap (λ x. get_or zs (f + x) None) e ∙ a ∙ h.rest (g + k) (λ j u v. omega arith) (λ j u v. omega arith) ∙ ap (λ x. get_or xs (g + x) None) (sym e)
        | inr e ↦ other (f + i) (λ v. e (omega arith)) (λ v. omega arith) ∙ h.left i (omega arith)
      ];
      right = λ i l. elim (cases_eq i k) [
        | inl e ↦ ap (λ x. get_or zs (g + x) None) e ∙ b ∙ h.rest (f + k) (λ j u v. omega arith) (λ j u v. omega arith) ∙ ap (λ x. get_or xs (f + x) None) (sym e)
        | inr e ↦ other (g + i) (λ v. omega arith) (λ v. e (omega arith)) ∙ h.right i (omega arith)
      ];
      rest = λ r p q.
          other r (λ v. p k (omega arith) v) (λ v. q k (omega arith) v)
          ∙ h.rest r (λ j u v. p j (omega arith) v) (λ j u v. q j (omega arith) v);
    }

-- an offset in a set stays
pub sw_place : (p q a b s k : ℕ) → sw p q 0 a ≡ b → k < dbl s 1 → sw p q s (dbl s a + k) ≡ dbl s b + k
sw_place p q a b zero k e h =
    let z : a + k ≡ a = omega arith in
    omega (arith, ap (sw p q 0) z ∙ e)
sw_place p q a b (suc s) k e h =
    let z : (dbl s (2 * a) + k) / 2 ≡ dbl s a + k / 2 = omega (arith, dbl_two s a) in
    let ih = ap (sw p q s) z ∙ sw_place p q a b s (k / 2) e (omega (arith, dbl_two s 1)) in
    omega (arith, ih, dbl_two s a, dbl_two s b)

-- the exchange of two sets as a block swap
pub swapped_sw : (p q s : ℕ) (xs ys : Ranks) → Swapped (dbl s p) (dbl s q) (dbl s 1) xs ys → (r : ℕ) → get_or ys r None ≡ get_or xs (sw p q s r) None
swapped_sw p q s xs ys h r =
    elim (cases_eq (up s r) p) [
      | inl e ↦
          let z = set_in s p r e in
          let k : ℕ = r - dbl s p in
          let y : r ≡ dbl s p + k = omega (arith, z.0) in
          let l : k < dbl s 1 = omega (arith, z.0, z.1) in
          ap (λ x. get_or ys x None) y ∙ h.left k l
          ∙ ap (λ x. get_or xs x None) (sym (ap (sw p q s) y ∙ sw_place p q p q s k (tr_left p q) l))
      | inr n ↦ elim (cases_eq (up s r) q) [
        | inl e ↦
            let z = set_in s q r e in
            let k : ℕ = r - dbl s q in
            let y : r ≡ dbl s q + k = omega (arith, z.0) in
            let l : k < dbl s 1 = omega (arith, z.0, z.1) in
            ap (λ x. get_or ys x None) y ∙ h.right k l
            ∙ ap (λ x. get_or xs x None) (sym (ap (sw p q s) y ∙ sw_place p q q p s k (tr_right p q) l))
        | inr m ↦
            h.rest r (λ k l e. n (in_set s p r (omega arith) (omega arith))) (λ k l e. m (in_set s q r (omega arith) (omega arith)))
            ∙ ap (λ x. get_or xs x None) (sym (sw_fix p q s r n m))
      ]
    ]

-- how many sets of a level there are
pub sets_count : (n i q : ℕ) → (q < n / 2 ^ i) ↔ (dbl i q + dbl i 1 ≤ n)
sets_count n i q = (
  (λ h. omega (arith, mul-le (q + 1) (2 ^ i) (n / 2 ^ i) (2 ^ i) (omega arith) (omega arith), div-mul-le_self n (2 ^ i), dbl_pow i (q + 1), dbl_add i q 1)),
  (λ h. omega (arith, le-div (q + 1) n (2 ^ i) (pow_pos i) (omega (arith, dbl_pow i (q + 1), dbl_add i q 1)))),
)

pub decides_set : (n : ℕ) (sz : ℕ → ℕ) (b : Bool) (i q f m : ℕ) → f ≡ dbl i q → m ≡ dbl i 1 → Decides b (FreeSet n sz f m) → Decides b (Free (FreeRank n sz) i q)
decides_set n sz b i q f m e k h =
    Decides-like b
    (λ z. free_all (FreeRank n sz) i q (λ r u v. z r (omega arith) (omega arith)))
    (λ z r u v. all_free (FreeRank n sz) i q z r (omega arith) (omega arith))
    h

pub table_small : (n : ℕ) → n ≤ 6 → 2 ^ n ≤ 64
table_small n h = pow_mono h
