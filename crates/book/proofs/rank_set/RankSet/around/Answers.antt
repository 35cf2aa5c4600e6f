use Rattle.std.proofs.Common.{refl}
use Rattle.table.specs.Slots.{bits}
use Rattle.book.proofs.Decided.{rank_inside}
use Rattle.book.proofs.rank_set.RankSet.around.Goals as goal

pub invariant_of-result : goal.invariant_of-result
invariant_of-result c = record { low = c.requires.low; within = rank_inside bits c.args.level c.args.rank _ c.requires.low c.requires.rank refl }
