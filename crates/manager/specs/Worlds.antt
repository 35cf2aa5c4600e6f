-- The state worked out from a start, the packets that waited then, and the list of what happened since. The answers in the list are not used.
use Rattle.std.specs.Prelude.{◌≡◌, ℕ, ◌<◌, ◌≤◌, List, [], ◌∷◌, ◌++◌, length, get_or, replicate, slice_index_or, slice_set}
use Rattle.table.specs.Slots.{lane_count}
use Rattle.bank.specs.declared.port.Port.{Port}
use Rattle.bank.specs.Ports.{most_ports, new_port}
use Rattle.lanes.specs.Queues.{queue, Packet, LanesFit}
use Rattle.fabric.specs.States.{State}
use Rattle.fabric.specs.Starting.{fresh_state}
use Rattle.manager.specs.Calls.{Ask, start, reserve, release, shut, reopen, pick, Performed, performed}
use Rattle.manager.specs.Histories.{called, joined, History}

-- how it began: a start was accepted on a bank of so many ports, while these packets waited in the lanes of each
pub record Beginning : Type 0 where
  pub count : ℕ
  pub waiting : List (List (List ℕ))

-- a bank has 1 to 16 ports, and every port its lanes, of packets
pub record Sound (b : Beginning) : Type 0 where
  pub some : 1 ≤ b.count
  pub most : b.count ≤ most_ports
  pub ports : length b.waiting ≡ b.count
  pub lanes : (p : ℕ) → p < b.count → LanesFit (slice_index_or b.waiting p [])

-- the fabric, the ports of the bank, and the queues of the lanes of each port
pub record World : Type 0 where
  pub state : State
  pub ports : List Port
  pub waiting : List (List (List ℕ))

-- after an accepted start there is no session, and every port is open and empty
abbrev pub begun : Beginning → World
begun b = record { state = fresh_state b.count; ports = replicate b.count new_port; waiting = b.waiting }

-- the lanes that a call is given: a pick those of its port
abbrev pub given : Ask → List (List (List ℕ)) → List (List ℕ)
given start w = []
given (reserve number level weight path) w = []
given (release number) w = []
given (shut p) w = []
given (reopen p) w = []
given (pick p) w = slice_index_or w p []

-- and what it leaves in them
abbrev pub taken_back : Ask → List (List (List ℕ)) → List (List ℕ) → List (List (List ℕ))
taken_back start w qs = w
taken_back (reserve number level weight path) w qs = w
taken_back (release number) w qs = w
taken_back (shut p) w qs = w
taken_back (reopen p) w qs = w
taken_back (pick p) w qs = slice_set w p qs

-- what a call answers and leaves there
abbrev pub result : World → Ask → Performed
result w c = performed w.state w.ports (given c w.waiting) c

abbrev pub after_call : World → Ask → World
after_call w c = let o = result w c in record { state = o.state; ports = o.ports; waiting = taken_back c w.waiting o.queues }

-- a packet joins the end of lane v of port p
abbrev pub after_join : World → ℕ → ℕ → ℕ → World
after_join w p v bytes =
    let qs = get_or w.waiting p [] in
    record { state = w.state; ports = w.ports; waiting = slice_set w.waiting p (slice_set qs v (queue qs v ++ bytes ∷ [])) }

abbrev pub world : Beginning → History → World
world b [] = begun b
world b (joined p v bytes ∷ h) = after_join (world b h) p v bytes
world b (called c r ∷ h) = after_call (world b h) c

-- every call got the answer that is worked out, and what joined were packets, at lanes of ports
abbrev pub Genuine : Beginning → History → Type 0
Genuine b [] = Unit {0}
Genuine b (joined p v bytes ∷ h) = (p < b.count) × (v < lane_count) × Packet bytes × Genuine b h
Genuine b (called c r ∷ h) = (r ≡ (result (world b h) c).answer) × Genuine b h
