use Rattle.std.proofs.Common.{◌≡◌, take}
use Rattle.text.specs.Rows.{row_of}
use Rattle.runner.proofs.world.ports_of.Given as goal

-- the hops so far are copied
abbrev pub invariant-loop-port : goal.invariant-loop-port
invariant-loop-port l = row_of l.ports ≡ take l.port-index l.port-items
