-- Picking the packet that a port sends next, from its table, its pointer and the packets that wait in its lanes.
use Rattle.std.specs.Prelude.{ℕ, zero, suc, ◌+◌, ◌-◌, ◌/◌, ◌%◌, min, Bool, true, false, cond, ◌&&◌, List, [], ◌∷◌, length, Ok, Err, Result, nat_lt, slice_index_or, slice_set}
use Rattle.table.specs.declared.refusal.Reason.TheVariants.{PortShut}
use Rattle.table.specs.declared.slot.Slot.{Slot}
use Rattle.table.specs.Slots.{empty_slot}
use Rattle.bank.specs.declared.port.Port.{Port}
use Rattle.bank.specs.Ports.{port_at}
use Rattle.lanes.specs.Queues.{queue, rest}
use Rattle.fabric.specs.declared.declined.Declined.{Declined}
use Rattle.fabric.specs.declared.fabric.Pointer.{Pointer}
use Rattle.fabric.specs.declared.picked.Picked.{Picked}
use Rattle.fabric.specs.declared.picked.Picked.TheVariants.{Sent, Idle}
use Rattle.fabric.specs.Declines.{by_bank}
use Rattle.fabric.specs.States.{State}
use Rattle.fabric.specs.Questions.{ask, and_then}
use Rattle.fabric.specs.Reserving.{ask_started}
use Rattle.fabric.specs.Shutting.{ask_port}

-- what a packet costs: a unit for each 64 bytes, begun ones too
abbrev pub cost : ℕ → ℕ
cost bytes = (bytes + 63) / 64

-- what a pick answers, and the pointer and the queues after it
pub record Turn : Type 0 where
  pub answer : Picked
  pub pointer : Pointer
  pub queues : List (List ℕ)

-- the same by its parts
abbrev pub turning : Picked → Pointer → List (List ℕ) → Turn
turning answer pointer qs = record { answer = answer; pointer = pointer; queues = qs }

-- the slot at a place, round and round the table
abbrev pub slot_on : List Slot → ℕ → Slot
slot_on table k = slice_index_or table (k % length table) empty_slot

-- a packet waits
abbrev pub some : List ℕ → Bool
some [] = false
some (x ∷ xs) = true

-- the length of the packet that waits first, 0 where none does
abbrev pub first : List ℕ → ℕ
first [] = 0
first (x ∷ xs) = x

-- the slot d places on has a weight, and its lane a packet
abbrev pub ready : List Slot → Pointer → List (List ℕ) → ℕ → Bool
ready table at qs d = nat_lt 0 (slot_on table (at.slot + d)).weight && some (queue qs (slot_on table (at.slot + d)).lane)

-- the usable credit: the pointer's, but no more than the weight that is now in its slot
abbrev pub usable : List Slot → Pointer → ℕ
usable table at = min at.credit (slot_on table at.slot).weight

-- the pointer's own slot can still send
abbrev pub stays : List Slot → Pointer → List (List ℕ) → Bool
stays table at qs = nat_lt 0 (usable table at) && some (queue qs (slot_on table at.slot).lane)

-- the first packet of the lane of the slot d places on is taken, and the credit falls by its cost, not below 0
abbrev pub sent : List Slot → Pointer → List (List ℕ) → ℕ → ℕ → Turn
sent table at qs d credit =
    let lane = (slot_on table (at.slot + d)).lane in
    let q = queue qs lane in
    record {
      answer = Sent lane (first q) d;
      pointer = record { slot = (at.slot + d) % length table; credit = credit - cost (first q) };
      queues = slice_set qs lane (rest q);
    }

-- the first of the k places from j on that passes a test is handed to one function; where none does, the other value is taken
abbrev pub seek : {X : Type 0} → (ℕ → Bool) → (ℕ → X) → X → ℕ → ℕ → X
seek test found none j zero = none
seek test found none j (suc k) = cond (test j) (found j) (seek test found none (j + 1) k)

-- The pointer's slot sends while it has usable credit and a packet. Otherwise the slots behind it are tried in order, the pointer's own last; the
-- first with a weight and a packet becomes the pointer's slot, with its weight as the credit.
unfoldable pub turn : List Slot → Pointer → List (List ℕ) → Turn
turn table at qs =
    cond (stays table at qs) (sent table at qs 0 (usable table at))
    (seek (ready table at qs) (λ d. sent table at qs d (slot_on table (at.slot + d)).weight)
    (record { answer = Idle (length table); pointer = at; queues = qs }) 1 (length table))

-- the pointer of port p
abbrev pub pointer_at : List Pointer → ℕ → Pointer
pointer_at pointers p = slice_index_or pointers p (record { slot = 0; credit = 0 })

-- the fabric with another pointer at port p
abbrev pub with_pointer : State → ℕ → Pointer → State
with_pointer s p at = record { started = s.started; books = s.books; pointers = slice_set s.pointers p at }

-- the questions of a pick, in their order
abbrev pub pick_answer : State → List Port → ℕ → Result (Unit {0}) Declined
pick_answer s ps p =
    and_then (ask_started s ps) (λ _.
    and_then (ask_port ps p) (λ _.
    ask (port_at ps p).«open» (by_bank PortShut 0)))

-- an answer, with the fabric and the lanes' queues after it; the bank stays
pub record Picking : Type 0 where
  pub answer : Result Picked Declined
  pub state : State
  pub queues : List (List ℕ)

abbrev pub picking : Result Picked Declined → State → List (List ℕ) → Picking
picking r s qs = record { answer = r; state = s; queues = qs }

abbrev pub if_picked : Result (Unit {0}) Declined → State → List Port → List (List ℕ) → ℕ → Picking
if_picked (Err e) s ps qs p = picking (Err e) s qs
if_picked (Ok u) s ps qs p =
    let t = turn (port_at ps p).slots (pointer_at s.pointers p) qs in
    picking (Ok t.answer) (with_pointer s p t.pointer) t.queues

-- what a pick at port p, given its lanes, answers and leaves
abbrev pub pick_call : State → List Port → List (List ℕ) → ℕ → Picking
pick_call s ps qs p = if_picked (pick_answer s ps p) s ps qs p
