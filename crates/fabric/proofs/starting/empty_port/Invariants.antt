use Rattle.std.proofs.Common.{◌≡◌, ◌++◌, drop, replicate}
use Rattle.table.specs.Slots.{empty_slot}
use Rattle.bank.specs.Ports.{port_at, with_slots}
use Rattle.fabric.proofs.starting.empty_port.Given as goal

-- the first slots are empty, the others as they were
abbrev pub invariant-loop-slot : goal.invariant-loop-slot
invariant-loop-slot g l =
    let was = g.B.Bank.ports l.initial.bank in
    g.B.Bank.ports l.bank ≡ with_slots was l.port (replicate l.slot empty_slot ++ drop l.slot (port_at was l.port).slots)
