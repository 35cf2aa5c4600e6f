-- The count of a bank never changes: no call makes more or fewer ports.
use Rattle.std.proofs.Common.{◌≡◌, ℕ, Bool, true, false, cond, ltb, List, length, refl, length-set}
use Rattle.table.specs.declared.slot.Slot.{Slot}
use Rattle.table.specs.Slots.{slots, lane_count}
use Rattle.bank.specs.declared.port.Port.{Port}
use Rattle.bank.specs.Ports.{port_at, write_after, state_after}

-- either of two lists of one length
length_either : (b : Bool) (xs ys : List Port) (n : ℕ) → length xs ≡ n → length ys ≡ n → length (cond b xs ys) ≡ n
length_either true xs ys n p q = p
length_either false xs ys n p q = q

pub count_state : (ps : List Port) (p : ℕ) (b : Bool) → length (state_after ps p b) ≡ length ps
count_state ps p b = length_either (ltb p (length ps)) _ ps _ (length-set ps p _) refl

pub count_shut : (ps : List Port) (p : ℕ) → length (state_after ps p false) ≡ length ps
count_shut ps p = count_state ps p false

pub count_reopen : (ps : List Port) (p : ℕ) → length (state_after ps p true) ≡ length ps
count_reopen ps p = count_state ps p true

pub count_write : (ps : List Port) (p s : ℕ) (w : Slot) → length (write_after ps p s w) ≡ length ps
count_write ps p s w =
    length_either (ltb p (length ps)) _ ps _
    (length_either (ltb s slots) _ ps _
    (length_either (ltb w.lane lane_count) _ ps _
    (length_either (port_at ps p).«open» _ ps _ (length-set ps p _) refl)
    refl)
    refl)
    refl
