-- What a whole script answers.
use Rattle.std.specs.Prelude.{◌≡◌, ℕ, ◌-◌, cond, ◌⊎◌, List, [], ◌∷◌, ◌++◌, length, replicate, nat_lt}
use Rattle.bank.specs.declared.port.Port.{Port}
use Rattle.bank.specs.Ports.{new_ports}
use Rattle.lanes.specs.Queues.{no_packets}
use Rattle.fabric.specs.States.{State}
use Rattle.fabric.specs.Starting.{unstarted}
use Rattle.text.specs.Answers.{Wrote}
use Rattle.runner.specs.Bytes.{longest, came_bytes}
use Rattle.runner.specs.Commands.{Order, orders_of}
use Rattle.runner.specs.Worlds.{Lanes, script_ports, obeyed}

-- The answers to orders, each with what those before it left, into a room of bytes: none more once fewer are left than the longest answer has.
unfoldable pub answers_to : ℕ → State → List Port → Lanes → List Order → List ℕ
answers_to room s ps ls [] = []
answers_to room s ps ls (order ∷ orders) =
    cond (nat_lt room longest) []
    (let o = obeyed s ps ls order in
    came_bytes o.came ++ answers_to (room - length (came_bytes o.came)) o.state o.ports o.lanes orders)

-- what a script answers on a fabric that is not started, a new bank and lanes in which no packet waits
abbrev pub script_bytes : ℕ → List ℕ → List ℕ
script_bytes room script = answers_to room unstarted (new_ports script_ports) (replicate script_ports no_packets) (orders_of script)

-- A text stands whole at the front of a buffer, whose rest is as it was; or, for want of memory or of room, nothing is written.
abbrev pub WholeOrNone : List ℕ → List ℕ → List ℕ → ℕ → Type 0
WholeOrNone text was new bytes = Wrote was new 0 bytes text ⊎ ((bytes ≡ 0) × (new ≡ was))
