use Rattle.std.proofs.Common.{◌-◌, cond, ltb}
use Rattle.table.specs.Slots.{bits}
use Rattle.book.specs.Slots.{Lays}
use Rattle.book.proofs.slots.lay_ranks.Given as goal

abbrev pub invariant-loop-k : goal.invariant-loop-k
invariant-loop-k l = Lays bits l.initial.table l.table l.first l.k (λ r. cond (ltb (r - l.first) l.count) l.below l.behind)
