use Rattle.std.proofs.Common.{◌≡◌, ◌-◌}
use Rattle.table.specs.Slots.{bits}
use Rattle.book.specs.FreeSets.{around_by}
use Rattle.book.specs.Bits.{free_bits}
use Rattle.book.proofs.ranks.HeldRanks.whole_around.Given as goal

abbrev pub invariant-loop-whole : goal.invariant-loop-whole
invariant-loop-whole l = let free = free_bits bits l.self.bits in around_by bits free l.initial.whole.level l.initial.whole.index ≡ around_by bits free l.whole.level l.whole.index

abbrev pub decreases-loop-whole : goal.decreases-loop-whole
decreases-loop-whole l = bits - l.whole.level
