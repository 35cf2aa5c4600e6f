use Rattle.std.proofs.Common.{◌≡◌, ◌*◌, ◌≤◌, drop}
use Rattle.table.specs.Slots.{bits, slots}
use Rattle.book.specs.Books.{filled}
use Rattle.fabric.specs.States.{meaning}
use Rattle.fabric.specs.Changes.{changing, changed_along}
use Rattle.fabric.proofs.fabric.Fabric.fill_path.Given as goal

-- what is left, done from here, comes to the whole
abbrev pub invariant-loop-port : goal.invariant-loop-port
invariant-loop-port g l =
    (changed_along (λ b. filled bits b l.session) (drop l.port-index l.path) (changing l.slots (meaning l.self) (g.B.Bank.ports l.bank))
    ≡ changed_along (λ b. filled bits b l.session) l.path (changing 0 (meaning l.initial.self) (g.B.Bank.ports l.initial.bank)))
    × (l.slots ≤ slots * l.port-index)
