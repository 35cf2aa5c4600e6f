-- The session guarantee: what holds of every history after an accepted start.
use Rattle.std.specs.Prelude.{◌≡◌, ℕ, ◌+◌, ◌-◌, ◌*◌, ◌<◌, ◌≤◌, true, false, ◌↔◌, List, [], ◌∷◌, ◌++◌, length, take, Ok, Err, Result, ◌≢◌, slice_index, slice_index_or}
use Rattle.table.specs.declared.refusal.Reason.TheVariants.{NoRoom}
use Rattle.table.specs.Slots.{bits, slots, most_weight, lane_count}
use Rattle.table.specs.Services.{distances}
use Rattle.bank.specs.declared.port.Port.{Port}
use Rattle.bank.specs.Ports.{port_at}
use Rattle.lanes.specs.Queues.{queue, Packet, most_bytes}
use Rattle.book.specs.Books.{contents}
use Rattle.book.specs.Sessions.{spacing_of}
use Rattle.book.specs.Laws.{Placed, no_session}
use Rattle.fabric.specs.declared.declined.Declined.{Declined}
use Rattle.fabric.specs.Declines.{by_fabric}
use Rattle.fabric.specs.States.{State, book_at}
use Rattle.fabric.specs.Reserving.{most_number, most_hops, among}
use Rattle.fabric.specs.Picking.{cost}
use Rattle.manager.specs.declared.call.Answer.{Answer}
use Rattle.manager.specs.declared.call.Answer.TheVariants.{Started}
use Rattle.manager.specs.Calls.{Ask, start, reserve, pick}
use Rattle.manager.specs.Histories.{called, joined, History, spacing_for, live, is_open, Unchanged, waits, PassedBy, AllSend, spent}
use Rattle.manager.specs.Questions.{questions, Verdict, IsLive, Room}
use Rattle.manager.specs.Worlds.{Beginning, Sound, world, Genuine}

-- the most that another lane's slot sends in its turn: its last packet starts with at least one unit of the weight left, and may be the longest
abbrev pub most_turn : ℕ
most_turn = most_weight - 1 + cost most_bytes

-- A packet waits first in the lane of a session that is live at port p, while the port's sessions do not change and no pick there takes it: then
-- every accepted pick there sends a packet, and those packets cost together at most a turn for each slot of the session's spacing.
abbrev pub Waiting : Beginning → History → History → ℕ → Type 0
Waiting b later earlier p =
    (i : ℕ) → i < length (live earlier p) →
    let x = slice_index_or (live earlier p) i no_session in
    (waits b.waiting earlier p x.lane ≢ []) → Unchanged p later earlier → PassedBy p x.lane later →
    AllSend p later × (spent p later ≤ most_turn * spacing_of bits x)

-- A reserve passes the questions that stand before the one for room.
pub record Passes (count : ℕ) (h : History) (number level weight : ℕ) (path : List ℕ) : Type 0 where
  pub number_is : (1 ≤ number) × (number ≤ most_number)
  pub level_is : level < length distances
  pub weight_is : (1 ≤ weight) × (weight ≤ most_weight * slots)
  pub some : 1 ≤ length path
  pub few : length path ≤ most_hops
  pub ports : (k : ℕ) → k < length path → (slice_index path k < count) × (among (slice_index path k) (take k path) ≡ false)
  pub opens : (k : ℕ) → k < length path → is_open h (slice_index path k) ≡ true
  pub new : IsLive h number → ⊥

-- k is the first hop whose port has no even placement of its live sessions and a new one of spacing t together.
pub record FirstFull (h : History) (t : ℕ) (path : List ℕ) (k : ℕ) : Type 0 where
  pub hop : k < length path
  pub full : Room h t (slice_index path k) → ⊥
  pub before : (j : ℕ) → j < k → Room h t (slice_index path j)

pub record Guarantee (b : Beginning) (h : History) (ports : List Port) : Type 0 where
  -- every call was declined exactly when one of its questions is answered no, by the first such; a reserve's last questions are whether its session
  -- and those live at the port have an even placement together
  pub declines : (later earlier : History) (c : Ask) (r : Result Answer Declined) → later ++ (called c r ∷ earlier) ≡ h → Verdict (questions b.count earlier c) r
  -- so a reserve that passes the earlier questions is declined for want of room just at the first hop that is full
  pub admission : (later earlier : History) (number level weight : ℕ) (path : List ℕ) (r : Result Answer Declined)
      → later ++ (called (reserve number level weight path) r ∷ earlier) ≡ h → Passes b.count earlier number level weight path
      → (k : ℕ) → (r ≡ Err (by_fabric NoRoom k)) ↔ FirstFull earlier (spacing_for level weight) path k
  -- the live sessions stand evenly in the bank's slots, each with its lane and its weights, where the sets of the worked-out books are
  pub placement : (p : ℕ) → p < b.count → Placed bits (book_at (world b h).state.books p) (live h p) (port_at ports p).slots
  pub moves : (p : ℕ) → p < b.count → (port_at ports p).slots ≡ contents bits (book_at (world b h).state.books p)
  -- every call got the answer that is worked out from the start and the list alone: a pick the packet that the picking rule gives
  pub answers : Genuine b h
  -- no session's packet waits longer than its spacing allows
  pub waiting : (later earlier : History) → later ++ earlier ≡ h → (p : ℕ) → p < b.count → Waiting b later earlier p

-- Fabric and bank are as the history leaves them, of which each answer is the one worked out.
pub record Stands (b : Beginning) (h : History) (state : State) (ports : List Port) : Type 0 where
  pub sound : Sound b
  pub genuine : Genuine b h
  pub state_is : state ≡ (world b h).state
  pub ports_are : ports ≡ (world b h).ports

-- The lanes that a pick is given are those of its port, as the history leaves them.
abbrev pub LanesAre : Beginning → History → Ask → List (List ℕ) → Type 0
LanesAre b h c qs = (p : ℕ) → c ≡ pick p → p < b.count → (v : ℕ) → queue qs v ≡ waits b.waiting h p v

-- What a call carries on: whatever happened before it, the history goes on and the guarantee holds of it.
abbrev pub Carries : State → List Port → List (List ℕ) → Ask → Result Answer Declined → State → List Port → List (List ℕ) → Type 0
Carries s ps qs c r s' ps' qs' = (b : Beginning) (h : History) → Stands b h s ps → LanesAre b h c qs →
    Stands b (called c r ∷ h) s' ps' × LanesAre b (called c r ∷ h) c qs' × Guarantee b (called c r ∷ h) ps'

-- An accepted start on a bank of so many ports begins a history, whatever was before, with any packets waiting.
abbrev pub Begins : List Port → Ask → Result Answer Declined → State → List Port → Type 0
Begins ps c r s' ps' = c ≡ start → r ≡ Ok Started → (b : Beginning) → Sound b → b.count ≡ length ps → Stands b [] s' ps' × Guarantee b [] ps'

-- A packet that joins a lane of a port goes on with the history: fabric and bank stay as they are.
abbrev pub Joins : Type 0
Joins = (b : Beginning) (h : History) (s : State) (ps : List Port) (p v bytes : ℕ) → Stands b h s ps → p < b.count → v < lane_count → Packet bytes → Stands b (joined p v bytes ∷ h) s ps
