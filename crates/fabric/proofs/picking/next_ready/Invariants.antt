use Rattle.bank.specs.Ports.{port_at}
use Rattle.fabric.proofs.Picks.{ReadyLeft}
use Rattle.fabric.proofs.picking.next_ready.Given as goal

abbrev pub invariant-loop-passed : goal.invariant-loop-passed
invariant-loop-passed g l = ReadyLeft (port_at (g.B.Bank.ports l.bank) l.port).slots l.at (g.L.Lanes.queues l.lanes) l.passed
