use Rattle.std.proofs.Common.{◌*◌, ◌≤◌}
use Rattle.table.specs.Slots.{slots}
use Rattle.fabric.specs.States.{meaning}
use Rattle.fabric.proofs.Releases.{Sofar}
use Rattle.fabric.proofs.fabric.Fabric.release_all.Given as goal

abbrev pub invariant-loop-port : goal.invariant-loop-port
invariant-loop-port g l =
    Sofar l.number (meaning l.initial.self) (g.B.Bank.ports l.initial.bank) l.port l.slots (meaning l.self) (g.B.Bank.ports l.bank)
    × (l.slots ≤ slots * l.port)
