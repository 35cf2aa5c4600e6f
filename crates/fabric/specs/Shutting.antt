-- Shutting and reopening a port of the bank through the fabric, which stays as it is.
use Rattle.std.specs.Prelude.{ℕ, true, false, List, length, Result, nat_lt}
use Rattle.table.specs.declared.refusal.Reason.TheVariants.{NoSuchPort}
use Rattle.bank.specs.declared.port.Port.{Port}
use Rattle.bank.specs.Ports.{state_after}
use Rattle.fabric.specs.declared.declined.Declined.{Declined}
use Rattle.fabric.specs.Declines.{by_bank}
use Rattle.fabric.specs.States.{State, Outcome, outcome}
use Rattle.fabric.specs.Questions.{ask}

-- is the port below the port count?
abbrev pub ask_port : List Port → ℕ → Result (Unit {0}) Declined
ask_port ps p = ask (nat_lt p (length ps)) (by_bank NoSuchPort 0)

-- what a shut answers and leaves
abbrev pub shut_call : State → List Port → ℕ → Outcome (Unit {0})
shut_call s ps p = outcome (ask_port ps p) s (state_after ps p false)

-- what a reopen answers and leaves
abbrev pub reopen_call : State → List Port → ℕ → Outcome (Unit {0})
reopen_call s ps p = outcome (ask_port ps p) s (state_after ps p true)
