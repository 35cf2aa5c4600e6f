use Rattle.std.proofs.Common.{◌≡◌, ℕ, ◌*◌, ◌<◌, ◌≤◌, sym, refl, subst, arith}
use Rattle.table.specs.Slots.{bits, slots, most_weight}
use Rattle.table.specs.Services.{serves, spacing, IsSpacing}
use Rattle.table.proofs.Spacings.{Tried, found, last, positive, bounded, spacing_rule}
use Rattle.table.proofs.service.spacing.Goals as goal

-- what the loop knows, with what it tries and what it comes to
module _ (d w t : ℕ) (inv : Tried (serves bits d w) bits (spacing bits d w) t) where
  within : (0 < t) × (t ≤ slots)
  within = (positive (serves bits d w) bits (spacing bits d w) t inv, bounded (serves bits d w) bits (spacing bits d w) t inv)

-- the spacing follows the rule
ruled : (d w t : ℕ) → t ≡ spacing bits d w → 1 ≤ d → w ≤ most_weight * slots → IsSpacing bits d w t
ruled d w t is near carried = subst (IsSpacing bits d w) (sym is) (spacing_rule bits d w near carried)

pub loop-t-init : goal.loop-t-init
unfolding spacing
loop-t-init c = record { power = (bits, omega arith, refl, refl) }

pub serves-requires : goal.serves-requires
serves-requires c = within c.args.distance c.args.weight c.loop-t.t c.loop-t.invariant

pub returns-else-not-serves : goal.returns-else-not-serves
returns-else-not-serves c = let is = found (serves bits c.args.distance c.args.weight) bits (spacing bits c.args.distance c.args.weight) c.loop-t.t c.loop-t.invariant (omega arith) (sym c.if-not-serves.ensures) in record {
  value = is;
  bounds = within c.args.distance c.args.weight c.loop-t.t c.loop-t.invariant;
  rule = ruled c.args.distance c.args.weight c.loop-t.t is;
}

pub returns-after-loop-t : goal.returns-after-loop-t
returns-after-loop-t c = let is = last (serves bits c.args.distance c.args.weight) bits (spacing bits c.args.distance c.args.weight) c.loop-t.t c.loop-t.invariant (omega arith) in record {
  value = is;
  bounds = within c.args.distance c.args.weight c.loop-t.t c.loop-t.invariant;
  rule = ruled c.args.distance c.args.weight c.loop-t.t is;
}
