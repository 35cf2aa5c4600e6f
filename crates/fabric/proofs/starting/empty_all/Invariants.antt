use Rattle.std.proofs.Common.{◌≡◌, ◌++◌, map, take, drop}
use Rattle.fabric.specs.Starting.{emptied_port}
use Rattle.fabric.proofs.starting.empty_all.Given as goal

-- the first ports are emptied, the others as they were
abbrev pub invariant-loop-port : goal.invariant-loop-port
invariant-loop-port g l =
    let was = g.B.Bank.ports l.initial.bank in
    g.B.Bank.ports l.bank ≡ map emptied_port (take l.port was) ++ drop l.port was
