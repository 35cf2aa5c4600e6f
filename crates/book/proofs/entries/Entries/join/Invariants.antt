use Rattle.std.proofs.Common.{◌-◌}
use Rattle.table.specs.Slots.{bits}
use Rattle.book.specs.Moves.{joined}
use Rattle.book.proofs.Moved.{Joins}
use Rattle.book.proofs.entries.Entries.join.Given as goal

abbrev pub invariant-loop-other : goal.invariant-loop-other
invariant-loop-other l = Joins bits (joined bits l.initial.self l.initial.whole.level l.initial.whole.index) l.self (l.whole.level, l.whole.index)

abbrev pub decreases-loop-other : goal.decreases-loop-other
decreases-loop-other l = bits - l.whole.level
