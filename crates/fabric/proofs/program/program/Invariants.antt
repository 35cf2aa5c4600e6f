use Rattle.fabric.proofs.Programs.{Going}
use Rattle.fabric.proofs.program.program.Given as goal

abbrev pub invariant-loop-slot : goal.invariant-loop-slot
invariant-loop-slot g l =
    Going l.port l.old l.new (g.B.Bank.ports l.initial.bank) l.written l.slot-iterator.count l.slot-iterator.iter.a.rest.now l.slot-iterator.iter.b.rest.now (g.B.Bank.ports l.bank)
