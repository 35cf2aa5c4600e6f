-- The weights of a set's ranks: between one unit and the most, and together the grant.
use Rattle.std.proofs.Common.{◌≡◌, ℕ, zero, suc, ◌+◌, ◌-◌, ◌*◌, ◌/◌, ◌%◌, ◌<◌, ◌≤◌, cond, ltb, ap, ◌∙◌, ⊎_elim, arith}
use Rattle.std.proofs.lemmas.Nat.{div-add-mod', mul-le, le-div, mod_below, mod-mul-add}
use Rattle.std.proofs.lemmas.Bool.{ltb-true, lt-ltb, le-ltb, cases_lt, cond_both, cond-true, cond-false}
use Rattle.table.specs.Slots.{most_weight}
use Rattle.table.specs.Services.{weight_at, total, Carries}

module _ (g m : ℕ) (some : 0 < m) (least : m ≤ g) (most : g ≤ most_weight * m) where
  -- one more unit fits where there is a rest
  pub room : 0 < g % m → g / m < most_weight
  room more = ⊎_elim (λ lt. lt) (λ ge. absurd (omega (arith, div-add-mod' g m, mul-le most_weight m (g / m) m ge (omega arith)))) (cases_lt (g / m) most_weight)

  pub at_most : g / m ≤ most_weight
  at_most = ⊎_elim (λ lt. omega arith) (λ ge. ⊎_elim (λ gt. absurd (omega (arith, div-add-mod' g m, mul-le (most_weight + 1) m (g / m) m gt (omega arith)))) (λ le. le) (cases_lt most_weight (g / m))) (cases_lt (g / m) most_weight)

  pub at_least : 1 ≤ g / m
  at_least = le-div 1 g m some (omega arith)

  -- the sum over the ranks i to i + n - 1 of the set q
  part : (q i n first : ℕ) → first ≡ q * m + i → i + n ≤ m → total (weight_at g m) first n ≡ n * (g / m) + ((g % m - i) - (g % m - (i + n)))
  part q i zero first e h = omega arith
  part q i (suc n) first e h =
      let at : first % m ≡ i = ap (λ x. x % m) e ∙ mod-mul-add q m i (omega arith) in
      let rest = part q (suc i) n (suc first) (omega arith) (omega arith) in
      ⊎_elim
      (λ lt.
      let t : ◌≡◌ {A = ℕ} (cond (ltb (first % m) (g % m)) 1 0) 1 = cond-true (ltb (first % m) (g % m)) 1 0 (lt-ltb (first % m) (g % m) (omega arith)) in
      omega (arith, t, rest))
      (λ ge.
      let f : ◌≡◌ {A = ℕ} (cond (ltb (first % m) (g % m)) 1 0) 0 = cond-false (ltb (first % m) (g % m)) 1 0 (le-ltb (first % m) (g % m) (omega arith)) in
      omega (arith, f, rest))
      (cases_lt i (g % m))

  pub carries : Carries g m
  carries = record {
    least = λ rank. cond_both (ltb (rank % m) (g % m)) 1 0 (λ x. 1 ≤ g / m + x) (λ _. omega (arith, at_least)) (λ _. omega (arith, at_least));
    most = λ rank. cond_both (ltb (rank % m) (g % m)) 1 0 (λ x. g / m + x ≤ most_weight) (λ e. omega (arith, room (omega (arith, ltb-true (rank % m) (g % m) e)))) (λ _. omega (arith, at_most));
    sum = λ q. part q 0 m (q * m) (omega arith) (omega arith) ∙ omega (arith, div-add-mod' g m, mod_below g m some);
  }
