use Rattle.std.proofs.Common.{◌≡◌, ◌/◌, arith}
use Rattle.table.specs.Slots.{bits}
use Rattle.book.proofs.Decided.{brother_inside}
use Rattle.book.proofs.rank_set.RankSet.brother.Goals as goal
use Rattle.book.proofs.rank_set.RankSet.brother.Goals.{then-self-eq0, else-self-eq0}

pub invariant_of-result : goal.invariant_of-result
invariant_of-result c =
    let near : c.if-self-eq0.index / 2 ≡ c.args.self.index / 2 = elim c.if-self-eq0.branch [
      | then-self-eq0 w ↦ omega (arith, w.index-is, w.if-self-eq0.true)
      | else-self-eq0 w ↦ omega (arith, w.index-is, w.if-self-eq0.false)
    ] in
    record { low = c.args.self.low; within = brother_inside bits c.args.self.level c.args.self.index c.if-self-eq0.index c.requires c.args.self.within near }
