use Rattle.std.proofs.Common.{arith}
use Rattle.table.specs.Slots.{bits}
use Rattle.book.proofs.Decided.{parent_inside}
use Rattle.book.proofs.rank_set.RankSet.doubled.Goals as goal

pub invariant_of-result : goal.invariant_of-result
invariant_of-result c = record { low = omega (arith, c.requires); within = parent_inside bits c.args.self.level c.args.self.index c.requires c.args.self.within }
