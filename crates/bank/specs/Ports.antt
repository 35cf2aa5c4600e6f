-- What a bank is: its ports, and what each call answers and does to them.
use Rattle.std.specs.Prelude.{◌≡◌, ℕ, ◌<◌, ◌≤◌, min, max, Bool, true, false, cond, List, [], length, replicate, Ok, Err, Result, nat_lt, slice_index_or, slice_set}
use Rattle.std.specs.List.{All}
use Rattle.table.specs.declared.slot.Slot.{Slot}
use Rattle.table.specs.declared.refusal.Refusal.{Refusal}
use Rattle.table.specs.declared.refusal.Layer.TheVariants.{Bank}
use Rattle.table.specs.declared.refusal.Reason.{Reason}
use Rattle.table.specs.declared.refusal.Reason.TheVariants.{PortShut, NoSuchPort, NoSuchSlot, NoSuchLane}
use Rattle.table.specs.Refusals.{refusal}
use Rattle.table.specs.Slots.{slots, lane_count, most_weight, empty_slot}
use Rattle.bank.specs.declared.port.Port.{Port}

-- a bank has at most so many ports
abbrev pub most_ports : ℕ
most_ports = 16

-- what is read past the last port
abbrev pub no_port : Port
no_port = record { «open» = false; slots = [] }

-- the port p
abbrev pub port_at : List Port → ℕ → Port
port_at ps p = slice_index_or ps p no_port

-- the slot s of the port p
abbrev pub slot_at : List Port → ℕ → ℕ → Slot
slot_at ps p s = slice_index_or (port_at ps p).slots s empty_slot

-- the slot s of one port
abbrev pub slot_of_port : Port → ℕ → Slot
slot_of_port q s = slice_index_or q.slots s empty_slot

-- one port with another slot s
abbrev pub port_with_slot : Port → ℕ → Slot → Port
port_with_slot q s w = record { «open» = q.«open»; slots = slice_set q.slots s w }

-- one port with another state
abbrev pub port_with_state : Port → Bool → Port
port_with_state q b = record { «open» = b; slots = q.slots }

-- what holds of each port of every bank
pub record PortFits (q : Port) : Type 0 where
  pub long : length q.slots ≡ slots
  pub lanes : All (λ x. x.lane < lane_count) q.slots
  pub weights : All (λ x. x.weight ≤ most_weight) q.slots

-- what holds of the ports of every bank
pub record BankFits (ps : List Port) : Type 0 where
  pub some : 1 ≤ length ps
  pub most : length ps ≤ most_ports
  pub long : (p : ℕ) → p < length ps → length (port_at ps p).slots ≡ slots
  pub lanes : (p s : ℕ) → p < length ps → s < slots → (slot_at ps p s).lane < lane_count
  pub weights : (p s : ℕ) → p < length ps → s < slots → (slot_at ps p s).weight ≤ most_weight

-- A question: answered no it is the bank's refusal, else what follows decides.
abbrev pub asked : {X : Type 0} → Bool → Reason → Result X Refusal → Result X Refusal
asked test reason next = cond test next (Err (refusal Bank reason 0))

-- the same for the ports, which stay where the question is answered no
abbrev pub only_if : Bool → List Port → List Port → List Port
only_if test ps next = cond test next ps

-- whether the port is open
abbrev pub open_answer : List Port → ℕ → Result Bool Refusal
open_answer ps p = asked (nat_lt p (length ps)) NoSuchPort (Ok (port_at ps p).«open»)

-- what the slot holds
abbrev pub slot_answer : List Port → ℕ → ℕ → Result Slot Refusal
slot_answer ps p s =
    asked (nat_lt p (length ps)) NoSuchPort
    (asked (nat_lt s slots) NoSuchSlot
    (Ok (slot_at ps p s)))

-- whether the slot may be set to w
abbrev pub write_answer : List Port → ℕ → ℕ → Slot → Result (Unit {0}) Refusal
write_answer ps p s w =
    asked (nat_lt p (length ps)) NoSuchPort
    (asked (nat_lt s slots) NoSuchSlot
    (asked (nat_lt w.lane lane_count) NoSuchLane
    (asked (port_at ps p).«open» PortShut
    (Ok tt))))

-- the ports with other slots at the port p
abbrev pub with_slots : List Port → ℕ → List Slot → List Port
with_slots ps p xs = slice_set ps p (record { «open» = (port_at ps p).«open»; slots = xs })

-- the ports with another state of the port p
abbrev pub with_state : List Port → ℕ → Bool → List Port
with_state ps p b = slice_set ps p (record { «open» = b; slots = (port_at ps p).slots })

-- the ports after a write, which sets one slot or is refused
abbrev pub write_after : List Port → ℕ → ℕ → Slot → List Port
write_after ps p s w =
    only_if (nat_lt p (length ps)) ps
    (only_if (nat_lt s slots) ps
    (only_if (nat_lt w.lane lane_count) ps
    (only_if (port_at ps p).«open» ps
    (with_slots ps p (slice_set (port_at ps p).slots s w)))))

-- whether the port may be shut or reopened
abbrev pub state_answer : List Port → ℕ → Result (Unit {0}) Refusal
state_answer ps p = asked (nat_lt p (length ps)) NoSuchPort (Ok tt)

-- the ports after a shut (false) or a reopen (true)
abbrev pub state_after : List Port → ℕ → Bool → List Port
state_after ps p b = only_if (nat_lt p (length ps)) ps (with_state ps p b)

-- a new port is open, and its slots are empty
abbrev pub new_port : Port
new_port = record { «open» = true; slots = replicate slots empty_slot }

-- a new bank has as many ports as asked for, but at least one and at most sixteen
abbrev pub new_ports : ℕ → List Port
new_ports count = replicate (min (max count 1) most_ports) new_port
