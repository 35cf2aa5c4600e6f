use Rattle.table.specs.Slots.{bits}
use Rattle.table.specs.Services.{serves, spacing}
use Rattle.table.proofs.Spacings.{Tried}
use Rattle.table.proofs.service.spacing.Given as goal

abbrev pub invariant-loop-t : goal.invariant-loop-t
invariant-loop-t l = Tried (serves bits l.distance l.weight) bits (spacing bits l.distance l.weight) l.t

abbrev pub decreases-loop-t : goal.decreases-loop-t
decreases-loop-t l = l.t
