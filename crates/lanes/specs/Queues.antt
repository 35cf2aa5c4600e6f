-- What lanes are: for each lane the packets that wait in it, by their lengths, the first first.
use Rattle.std.specs.Prelude.{◌≡◌, ℕ, ◌≤◌, Bool, true, cond, ◌&&◌, List, [], ◌∷◌, ◌++◌, length, replicate, Some, None, Ok, Err, Option, Result, nat_le, nat_lt, slice_index_or, slice_set}
use Rattle.std.specs.List.{AllByRecursion}
use Rattle.table.specs.declared.refusal.Refusal.{Refusal}
use Rattle.table.specs.declared.refusal.Layer.TheVariants.{Lanes}
use Rattle.table.specs.declared.refusal.Reason.{Reason}
use Rattle.table.specs.declared.refusal.Reason.TheVariants.{NoSuchLane, NoPacket, LaneFull, BadLength}
use Rattle.table.specs.Refusals.{refusal}
use Rattle.table.specs.Slots.{lane_count}

-- a packet has at most so many bytes
abbrev pub most_bytes : ℕ
most_bytes = 4096

-- a packet has at least one
abbrev pub Packet : ℕ → Type 0
Packet bytes = (1 ≤ bytes) × (bytes ≤ most_bytes)

-- the same as a test
abbrev pub is_packet : ℕ → Bool
is_packet bytes = nat_le 1 bytes && nat_le bytes most_bytes

-- whether each is a packet
abbrev pub all_packets : List ℕ → Bool
all_packets [] = true
all_packets (x ∷ xs) = is_packet x && all_packets xs

-- the packets of a lane
abbrev pub queue : List (List ℕ) → ℕ → List ℕ
queue qs lane = slice_index_or qs lane []

-- what holds of the queues of all lanes
pub record LanesFit (qs : List (List ℕ)) : Type 0 where
  pub count : length qs ≡ lane_count
  pub packets : (lane : ℕ) → AllByRecursion Packet (queue qs lane)

-- the first of a list, if there is one
abbrev pub first_of : {X : Type 0} → List X → Option X
first_of [] = None
first_of (x ∷ xs) = Some x

-- those behind it
abbrev pub rest : {X : Type 0} → List X → List X
rest [] = []
rest (x ∷ xs) = xs

-- A question: answered no it is the lanes' refusal, else what follows decides.
abbrev pub asked : {X : Type 0} → Bool → Reason → Result X Refusal → Result X Refusal
asked test reason next = cond test next (Err (refusal Lanes reason 0))

-- The same for the queues, which stay where the question is answered no.
abbrev pub only_if : Bool → List (List ℕ) → List (List ℕ) → List (List ℕ)
only_if test qs next = cond test next qs

-- the packet that waits first in a lane
abbrev pub first_answer : List (List ℕ) → ℕ → Result (Option ℕ) Refusal
first_answer qs lane = asked (nat_lt lane lane_count) NoSuchLane (Ok (first_of (queue qs lane)))

-- a packet must wait
abbrev pub taken : Option ℕ → Result ℕ Refusal
taken None = Err (refusal Lanes NoPacket 0)
taken (Some x) = Ok x

-- the packet that is taken
abbrev pub take_answer : List (List ℕ) → ℕ → Result ℕ Refusal
take_answer qs lane = asked (nat_lt lane lane_count) NoSuchLane (taken (first_of (queue qs lane)))

-- the queues afterwards: in that lane those behind the first
abbrev pub after_take : List (List ℕ) → ℕ → List (List ℕ)
after_take qs lane = only_if (nat_lt lane lane_count) qs (slice_set qs lane (rest (queue qs lane)))

-- no packet waits
abbrev pub no_packets : List (List ℕ)
no_packets = replicate lane_count []

-- whether a packet of so many bytes may join a lane that has room for so many packets
abbrev pub arrive_answer : ℕ → List (List ℕ) → ℕ → ℕ → Result (Unit {0}) Refusal
arrive_answer room qs lane bytes =
    asked (nat_lt lane lane_count) NoSuchLane
    (asked (is_packet bytes) BadLength
    (asked (nat_lt (length (queue qs lane)) room) LaneFull
    (Ok tt)))

-- the queues afterwards: it stands at the end of that lane's
abbrev pub arrive_after : ℕ → List (List ℕ) → ℕ → ℕ → List (List ℕ)
arrive_after room qs lane bytes =
    only_if (nat_lt lane lane_count) qs
    (only_if (is_packet bytes) qs
    (only_if (nat_lt (length (queue qs lane)) room) qs
    (slice_set qs lane (queue qs lane ++ (bytes ∷ [])))))
