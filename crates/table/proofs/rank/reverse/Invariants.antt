use Rattle.std.proofs.Common.{◌≡◌, ◌+◌, ◌-◌, ◌*◌, ◌^◌, ◌<◌}
use Rattle.table.specs.Slots.{bits}
use Rattle.table.specs.Reversal.{reversed}
use Rattle.table.proofs.rank.reverse.Given as goal

-- what is left, reversed below what has been moved over, is the whole
abbrev pub invariant-loop-i : goal.invariant-loop-i
invariant-loop-i l = (l.out * 2 ^ (bits - l.i) + reversed (bits - l.i) l.left ≡ reversed bits l.slot) × (l.out < 2 ^ l.i)
