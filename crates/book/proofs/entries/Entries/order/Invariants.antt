use Rattle.std.proofs.Common.{◌≡◌}
use Rattle.table.specs.Slots.{bits}
use Rattle.book.specs.Moves.{ordered, ordering}
use Rattle.book.proofs.entries.Entries.order.Given as goal

abbrev pub invariant-loop-level : goal.invariant-loop-level
invariant-loop-level l = ordered bits l.initial.self ≡ ordering bits l.self l.level
