use Rattle.std.proofs.Common.{◌≡◌, map, take}
use Rattle.text.specs.Commands.{value_of}
use Rattle.text.specs.Told.{ports_of}
use Rattle.text.proofs.parse.path_of.Given as goal

abbrev pub invariant-loop-port : goal.invariant-loop-port
invariant-loop-port l = ports_of l.path ≡ map value_of (take l.port-index l.ports)
