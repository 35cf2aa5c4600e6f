-- The start of a fabric on a bank.
use Rattle.std.specs.Prelude.{ℕ, ◌-◌, List, map, length, replicate, Some, None, Ok, Err, Option, Result}
use Rattle.table.specs.declared.refusal.Reason.TheVariants.{PortShut}
use Rattle.table.specs.Slots.{bits, slots, empty_slot}
use Rattle.bank.specs.declared.port.Port.{Port}
use Rattle.bank.specs.Ports.{most_ports}
use Rattle.book.specs.Books.{empty_ranks}
use Rattle.fabric.specs.declared.declined.Declined.{Declined}
use Rattle.fabric.specs.declared.fabric.Pointer.{Pointer}
use Rattle.fabric.specs.Declines.{by_bank}
use Rattle.fabric.specs.States.{State, Outcome, outcome}
use Rattle.fabric.specs.Questions.{ask_each}

-- is every port open? No: at the lowest shut port.
abbrev pub start_answer : List Port → Result (Unit {0}) Declined
start_answer ps = ask_each (λ k (p : Port). p.«open») (by_bank PortShut) 0 ps

-- a port with all its slots empty
abbrev pub emptied_port : Port → Port
emptied_port p = record { «open» = p.«open»; slots = replicate slots empty_slot }

-- a pointer on the last slot, without credit
abbrev pub last_slot : Pointer
last_slot = record { slot = slots - 1; credit = 0 }

-- a fabric without sessions: never started, or started on a bank of so many ports
abbrev pub without : Option ℕ → State
without count = record { started = count; books = replicate most_ports (empty_ranks bits); pointers = replicate most_ports last_slot }

abbrev pub unstarted : State
unstarted = without None

abbrev pub fresh_state : ℕ → State
fresh_state count = without (Some count)

-- what a start answers and leaves
abbrev pub started_up : Result (Unit {0}) Declined → State → List Port → Outcome (Unit {0})
started_up (Err e) s ps = outcome (Err e) s ps
started_up (Ok u) s ps = outcome (Ok tt) (fresh_state (length ps)) (map emptied_port ps)

abbrev pub start_call : State → List Port → Outcome (Unit {0})
start_call s ps = started_up (start_answer ps) s ps
