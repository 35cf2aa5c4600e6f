-- The spacing rule: halving from the top finds the largest power of two that serves.
use Rattle.std.proofs.Common.{◌≡◌, ℕ, zero, suc, ◌*◌, ◌/◌, ◌^◌, ◌<◌, ◌≤◌, Bool, true, false, cond, leb, ◌⊎◌, sym, refl, ap, ◌∙◌, subst, inl, inr, ⊎_elim, arith, pow_mono}
use native.Mathlib.Nat.{pow-succ'}
use Rattle.std.proofs.lemmas.Nat.{pow_pos}
use Rattle.std.proofs.lemmas.Bool.{leb-true, le-leb, and_parts, and_from, cases_Bool, cases_eq, cond-true, cond-false}
use Rattle.table.specs.Slots.{most_weight}
use Rattle.table.specs.Services.{Serves, IsSpacing, serves, largest_power, spacing}

-- the test tells whether a spacing serves
pub serves_true : (b d w t : ℕ) → serves b d w t ≡ true → Serves b d w t
serves_true b d w t e =
    let p = and_parts (leb t d) (leb w (most_weight * (2 ^ b / t))) e in
    record { near = leb-true t d p.0; carried = leb-true w (most_weight * (2 ^ b / t)) p.1 }

pub true_serves : (b d w t : ℕ) → Serves b d w t → serves b d w t ≡ true
true_serves b d w t s = and_from (leb t d) (leb w (most_weight * (2 ^ b / t))) (le-leb t d s.near) (le-leb w (most_weight * (2 ^ b / t)) s.carried)

-- what the largest power of two that passes is
pub record Largest (test : ℕ → Bool) (k t : ℕ) : Type 0 where
  pub power : (j : ℕ) × (j ≤ k) × (t ≡ 2 ^ j)
  pub passes : (test t ≡ true) ⊎ (t ≡ 1)
  pub largest : (j : ℕ) → j ≤ k → test (2 ^ j) ≡ true → 2 ^ j ≤ t

pub largest_power_lem : (test : ℕ → Bool) (k : ℕ) → Largest test k (largest_power test k)
largest_power_lem test zero = record { power = (0, omega arith, refl); passes = inr refl; largest = λ j h e. pow_mono {i = j} {j = 0} h }
largest_power_lem test (suc k) = ⊎_elim
    (λ e. subst (Largest test (suc k)) (sym (cond-true (test (2 ^ suc k)) (2 ^ suc k) (largest_power test k) e))
    (record { power = (suc k, omega arith, refl); passes = inl e; largest = λ j h _. pow_mono {i = j} {j = suc k} h }))
    (λ e. subst (Largest test (suc k)) (sym (cond-false (test (2 ^ suc k)) (2 ^ suc k) (largest_power test k) e))
    (let r = largest_power_lem test k in
    record {
      power = (r.power.0, omega (arith, r.power.1), r.power.2);
      passes = r.passes;
      largest = λ j h t. ⊎_elim
          (λ is. let z : true ≡ false = sym t ∙ ap (λ i. test (2 ^ i)) is ∙ e in absurd (differ z))
          (λ ne. r.largest j (omega arith) t)
          (cases_eq j (suc k));
    }))
    (cases_Bool (test (2 ^ suc k)))
  where
    differ : true ≡ false → ⊥
    differ z = subst (λ b. cond b (Unit {0}) ⊥) z tt

-- that is the spacing for every distance from 1 on and every weight that the whole table carries
pub spacing_rule : (b d w : ℕ) → 1 ≤ d → w ≤ most_weight * 2 ^ b → IsSpacing b d w (spacing b d w)
unfolding spacing
spacing_rule b d w near carried =
    let r = largest_power_lem (serves b d w) b in
    record {
      power = r.power;
      serves = ⊎_elim
          (serves_true b d w (largest_power (serves b d w) b))
          (λ is. subst (Serves b d w) (sym is) (record { near = near; carried = omega (arith, one) }))
          r.passes;
      largest = λ k h s. r.largest k h (true_serves b d w (2 ^ k) s);
    }
  where
    one : 2 ^ b / 1 ≡ 2 ^ b
    one = omega arith

-- t is a power of two, and what is left to try from it on comes to s
pub record Tried (test : ℕ → Bool) (b s t : ℕ) : Type 0 where
  pub power : (k : ℕ) × (k ≤ b) × (t ≡ 2 ^ k) × (largest_power test k ≡ s)

module _ (test : ℕ → Bool) (b s t : ℕ) (h : Tried test b s t) where
  found_at : (k : ℕ) → t ≡ 2 ^ k → largest_power test k ≡ s → 1 < t → test t ≡ true → t ≡ s
  found_at zero e rest more passes = absurd (omega arith)
  found_at (suc k) e rest more passes = e ∙ sym (cond-true (test (2 ^ suc k)) (2 ^ suc k) (largest_power test k) (ap test (sym e) ∙ passes)) ∙ rest

  pub found : 1 < t → test t ≡ true → t ≡ s
  found = found_at h.power.0 h.power.2 h.power.3

  last_at : (k : ℕ) → t ≡ 2 ^ k → largest_power test k ≡ s → t ≤ 1 → t ≡ s
  last_at zero e rest small = e ∙ rest
  last_at (suc k) e rest small = absurd (omega (arith, pow-succ' 2 k, pow_pos k))

  pub last : t ≤ 1 → t ≡ s
  last = last_at h.power.0 h.power.2 h.power.3

  pub positive : 0 < t
  positive = omega (arith, h.power.2, pow_pos h.power.0)

  pub bounded : t ≤ 2 ^ b
  bounded = omega (arith, h.power.2, pow_mono {i = h.power.0} {j = b} h.power.1)
