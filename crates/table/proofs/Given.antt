-- What a level and a weight are given.
use Rattle.std.proofs.Common.{◌≡◌, ℕ, ◌+◌, ◌-◌, ◌*◌, ◌/◌, ◌^◌, ◌<◌, ◌≤◌, Bool, ◌&&◌, leb, length, get_or, Ok, sym, refl, ap, ◌∙◌, subst, arith}
use Rattle.std.proofs.lemmas.Nat.{pow-add, shl-shr}
use Rattle.std.proofs.lemmas.Bool.{leb-true, le-leb, lt-ltb, and_parts}
use Rattle.table.specs.Slots.{bits, slots, most_weight}
use Rattle.table.specs.Services.{distances, spacing, size_of, granted, service_in, service_for, IsSpacing, Served}
use Rattle.table.proofs.Tables.{every_at}
use Rattle.table.proofs.Spacings.{spacing_rule}
use Rattle.table.proofs.Weights.{carries}

-- every distance of the table is from 1 to the slot count: one computed test
abbrev proper : ℕ → Bool
proper d = leb 1 d && leb d slots

pub distance_proper : (level : ℕ) → level < length distances → (1 ≤ get_or distances level 0) × (get_or distances level 0 ≤ slots)
distance_proper level h =
    let p = and_parts (leb 1 (get_or distances level 0)) (leb (get_or distances level 0) slots) (every_at proper distances level 0 refl h) in
    (leb-true 1 (get_or distances level 0) p.0, leb-true (get_or distances level 0) slots p.1)

-- a power of two divides the table evenly
pub turns : (b k : ℕ) → k ≤ b → 2 ^ k * (2 ^ b / 2 ^ k) ≡ 2 ^ b
turns b k h =
    let split : 2 ^ b ≡ 2 ^ (b - k) * 2 ^ k = ap (λ n. 2 ^ n) {x = b} {y = (b - k) + k} (omega arith) ∙ pow-add 2 (b - k) k in
    let size : 2 ^ b / 2 ^ k ≡ 2 ^ (b - k) = ap (λ n. n / 2 ^ k) split ∙ shl-shr (2 ^ (b - k)) k in
    omega (arith, ap (λ n. 2 ^ k * n) size, split)

module _ (level weight : ℕ) (known : level < length distances) (some : 1 ≤ weight) (most : weight ≤ most_weight * slots) where
  pub accepted : service_for level weight ≡ Ok (service_in bits (get_or distances level 0) weight)
  accepted = simp (lt-ltb level (length distances) known, le-leb 1 weight some, le-leb weight (most_weight * slots) most)

  pub served : Served level weight (service_in bits (get_or distances level 0) weight)
  served =
      let d : ℕ = get_or distances level 0 in
      let t : ℕ = spacing bits d weight in
      let m : ℕ = size_of bits t in
      let is : IsSpacing bits d weight t = spacing_rule bits d weight (distance_proper level known).0 most in
      let k : ℕ = is.power.0 in
      let even : t * m ≡ slots = subst (λ x. x * (2 ^ bits / x) ≡ 2 ^ bits) (sym is.power.2) (turns bits k is.power.1) in
      let size : 0 < m = omega (arith, even) in
      record {
        spacing = is;
        turns = even;
        grant = refl;
        carries = carries (granted weight m) m size (omega arith) (omega (arith, is.serves.carried));
      }
