use Rattle.std.proofs.Common.{◌≡◌, ◌*◌, ◌++◌, take, drop}
use Rattle.bank.specs.Ports.{port_at}
use Rattle.bank.specs.Images.{image_of}
use Rattle.bank.proofs.image.write_image.Given as goal

abbrev pub invariant-loop-slot : goal.invariant-loop-slot
invariant-loop-slot g l = l.out ≡ image_of (take l.slot (port_at (g.B.Bank.ports l.bank) l.port).slots) ++ drop (2 * l.slot) l.initial.out
