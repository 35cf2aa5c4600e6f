-- The slots of a port written one after the other.
use Rattle.std.proofs.Common.{◌≡◌, ℕ, ◌+◌, ◌≤◌, Bool, true, false, cond, List, [], ◌∷◌, length, sym, ap, ◌∙◌, ◌⊎◌, add_assoc, subst, inl, inr, arith}
use Rattle.table.specs.declared.slot.Slot.{Slot}
use Rattle.table.specs.Slots.{slots, same_slot}
use Rattle.bank.specs.declared.port.Port.{Port}
use Rattle.bank.specs.Ports.{write_after}
use Rattle.fabric.specs.Changes.{programmed}
use Rattle.book.specs.Slots.{differ, changed_slots}

-- n slots were written, i were passed; those that are left, done from here, come to the whole
pub record Going (p : ℕ) (olds news : List Slot) (before : List Port) (n i : ℕ) (xs ys : List Slot) (ps : List Port) : Type 0 where
  pub count : n + changed_slots xs ys ≡ changed_slots olds news
  pub most : n + length xs ≤ slots
  pub same : length ys ≡ length xs
  pub written : programmed p i xs ys ps ≡ programmed p 0 olds news before

pub at_most_one : (b : Bool) (n : ℕ) → n ≡ cond b 1 0 → n ≤ 1
at_most_one true n e = omega arith
at_most_one false n e = omega arith

module _ (p : ℕ) (olds news : List Slot) (before : List Port) where
  step : (n m i : ℕ) (old new : Slot) (xs ys : List Slot) (ps : List Port) → Going p olds news before n i (old ∷ xs) (new ∷ ys) ps → m ≡ cond (differ old new) 1 0
      → Going p olds news before (n + m) (i + 1) xs ys (cond (same_slot old new) ps (write_after ps p i new))
  unfolding changed_slots
  step n m i old new xs ys ps inv one = record {
    count = ap (λ k. (n + k) + changed_slots xs ys) one ∙ add_assoc n (cond (differ old new) 1 0) (changed_slots xs ys) ∙ inv.count;
    most = omega (arith, inv.most, at_most_one (differ old new) m one);
    same = omega (arith, inv.same);
    written = inv.written;
  }

  pub going_more : (n i : ℕ) (xs ys : List Slot) (ps : List Port) (old new : Slot) (xs' ys' : List Slot) (s j m : ℕ) (qs : List Port) → xs ≡ old ∷ xs' → ys ≡ new ∷ ys' → s ≡ i → j ≡ i + 1
      → Going p olds news before n i xs ys ps → m ≡ cond (differ old new) 1 0 → qs ≡ cond (same_slot old new) ps (write_after ps p s new) → Going p olds news before (n + m) j xs' ys' qs
  going_more n i xs ys ps old new xs' ys' s j m qs a b at next inv one wrote =
      subst (λ k. Going p olds news before (n + m) k xs' ys' qs) (sym next)
      (subst (λ zs. Going p olds news before (n + m) (i + 1) xs' ys' zs) (sym (wrote ∙ ap (λ k. cond (same_slot old new) ps (write_after ps p k new)) at))
      (step n m i old new xs' ys' ps (subst (λ zs. Going p olds news before n i (old ∷ xs') zs ps) b (subst (λ zs. Going p olds news before n i zs ys ps) a inv)) one))

  end : (n i : ℕ) (ps : List Port) → Going p olds news before n i [] [] ps → (n ≡ changed_slots olds news) × (ps ≡ programmed p 0 olds news before)
  unfolding changed_slots
  end n i ps inv = (omega (arith, inv.count), inv.written)

  pub going_all : (n i : ℕ) (xs ys : List Slot) (ps : List Port) → (length xs ≡ 0) ⊎ (length ys ≡ 0) → Going p olds news before n i xs ys ps → (n ≡ changed_slots olds news) × (ps ≡ programmed p 0 olds news before)
  going_all n i [] [] ps none inv = end n i ps inv
  going_all n i (x ∷ xs) [] ps none inv = absurd (omega (arith, inv.same))
  going_all n i [] (y ∷ ys) ps none inv = absurd (omega (arith, inv.same))
  going_all n i (x ∷ xs) (y ∷ ys) ps (inl none) inv = absurd (omega arith)
  going_all n i (x ∷ xs) (y ∷ ys) ps (inr none) inv = absurd (omega arith)
