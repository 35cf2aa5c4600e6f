-- A new port fits a bank, and still does with another slot.
use Rattle.std.proofs.Common.{◌≡◌, ℕ, ◌<◌, ◌≤◌, Bool, replicate, refl, arith, length-set}
use Rattle.std.proofs.lemmas.List.Elements.{All-replicate, All-set}
use Rattle.table.specs.declared.slot.Slot.{Slot}
use Rattle.table.specs.Slots.{slots, lane_count, most_weight, empty_slot}
use Rattle.bank.specs.declared.port.Port.{Port}
use Rattle.bank.specs.Ports.{PortFits, port_with_slot}

pub fits_new : {up : Bool} (w : Slot) → w ≡ empty_slot → PortFits (record { «open» = up; slots = replicate slots w })
fits_new w is =
    record {
      long = refl;
      lanes = All-replicate (λ (x : Slot). x.lane < lane_count) slots w (rw is (omega arith));
      weights = All-replicate (λ (x : Slot). x.weight ≤ most_weight) slots w (rw is (omega arith));
    }

pub fits_slot : (q : Port) (s : ℕ) (w : Slot) → PortFits q → w.lane < lane_count → w.weight ≤ most_weight → PortFits (port_with_slot q s w)
fits_slot q s w fits lane weight =
    record {
      long = simp length-set fits.long;
      lanes = All-set (λ (x : Slot). x.lane < lane_count) q.slots s w lane fits.lanes;
      weights = All-set (λ (x : Slot). x.weight ≤ most_weight) q.slots s w weight fits.weights;
    }
