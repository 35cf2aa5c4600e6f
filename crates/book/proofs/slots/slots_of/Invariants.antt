use Rattle.table.specs.Slots.{bits}
use Rattle.book.proofs.Holders.{LaidTo}
use Rattle.book.proofs.slots.slots_of.Given as goal

abbrev pub invariant-loop-first : goal.invariant-loop-first
invariant-loop-first l = LaidTo bits l.book l.first l.table
