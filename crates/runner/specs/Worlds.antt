-- What a script's command does to the fabric, the bank and the lanes of its four ports.
use Rattle.std.specs.Prelude.{ℕ, ◌%◌, cond, List, [], take, Some, None, Ok, Err, Result, nat_lt, slice_index_or, slice_set}
use Rattle.table.specs.declared.refusal.Reason.TheVariants.{NoSuchPort}
use Rattle.table.specs.declared.refusal.Refusal.{Refusal}
use Rattle.bank.specs.declared.port.Port.{Port}
use Rattle.lanes.specs.Queues.{arrive_answer, arrive_after}
use Rattle.lanes.specs.OneLane.{lane_room}
use Rattle.fabric.specs.declared.declined.Declined.{Declined}
use Rattle.fabric.specs.Declines.{by_bank, handed_on}
use Rattle.fabric.specs.States.{State}
use Rattle.manager.specs.declared.call.Answer.{Answer}
use Rattle.manager.specs.Calls.{Ask, start, reserve, release, shut, reopen, pick, Performed, performed}
use Rattle.runner.specs.Bytes.{Came}
use Rattle.runner.specs.Commands.{Order, call, arrive}

-- a script runs on so many ports
abbrev pub script_ports : ℕ
script_ports = 4

-- a reserve has at most so many hops, since their count is one byte
abbrev pub most_hops : ℕ
most_hops = 255

-- the queues of each port's lanes
abbrev pub Lanes : Type 0
Lanes = List (List (List ℕ))

abbrev pub queues_at : Lanes → ℕ → List (List ℕ)
queues_at ls port = slice_index_or ls port []

-- an answer, with the fabric, the ports of the bank and the lanes of the ports after it
pub record Obeyed : Type 0 where
  pub came : Came
  pub state : State
  pub ports : List Port
  pub lanes : Lanes

abbrev pub obeying : Came → State → List Port → Lanes → Obeyed
obeying r s ps ls = record { came = r; state = s; ports = ps; lanes = ls }

-- what the manager answers
abbrev pub came_of : Result Answer Declined → Came
came_of (Ok a) = Ok (Some a)
came_of (Err d) = Err d

-- what ring lanes answer to a packet
abbrev pub joined_of : Result (Unit {0}) Refusal → Came
joined_of (Ok done) = Ok None
joined_of (Err refusal) = Err (handed_on refusal)

-- the port whose lanes a call is given: for a pick its own, or any where it is not there
abbrev pub port_for : Ask → ℕ
port_for start = 0
port_for (reserve number level weight path) = 0
port_for (release number) = 0
port_for (shut port) = 0
port_for (reopen port) = 0
port_for (pick port) = port % script_ports

-- a call's path, as long as one may be
abbrev pub within : Ask → Ask
within start = start
within (reserve number level weight path) = reserve number level weight (take most_hops path)
within (release number) = release number
within (shut port) = shut port
within (reopen port) = reopen port
within (pick port) = pick port

-- a call that the manager performed with the lanes of a port
abbrev pub served : ℕ → Lanes → Performed → Obeyed
served port ls o = obeying (came_of o.answer) o.state o.ports (slice_set ls port o.queues)

-- A call is the manager's. A packet joins the lanes of its port, which must be there.
unfoldable pub obeyed : State → List Port → Lanes → Order → Obeyed
obeyed s ps ls (call a) = served (port_for a) ls (performed s ps (queues_at ls (port_for a)) (within a))
obeyed s ps ls (arrive port lane bytes) =
    cond (nat_lt port script_ports)
    (obeying (joined_of (arrive_answer lane_room (queues_at ls port) lane bytes)) s ps (slice_set ls port (arrive_after lane_room (queues_at ls port) lane bytes)))
    (obeying (Err (by_bank NoSuchPort 0)) s ps ls)
