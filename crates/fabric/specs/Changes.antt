-- A change of books along a path, and the slots that it writes.
use Rattle.std.specs.Prelude.{◌≡◌, ℕ, ◌+◌, ◌≤◌, cond, List, [], ◌∷◌}
use Rattle.table.specs.declared.slot.Slot.{Slot}
use Rattle.table.specs.Slots.{bits, slots, same_slot}
use Rattle.bank.specs.declared.port.Port.{Port}
use Rattle.bank.specs.Ports.{write_after}
use Rattle.book.specs.Books.{Ranks, contents, changed_slots}
use Rattle.fabric.specs.declared.fabric.PortState.{PortState}
use Rattle.fabric.specs.States.{State, book_at, with_book}

-- the slots of port p from slot s on whose content differs are written, the others are not
abbrev pub programmed : ℕ → ℕ → List Slot → List Slot → List Port → List Port
programmed p s [] news ps = ps
programmed p s (old ∷ olds) [] ps = ps
programmed p s (old ∷ olds) (new ∷ news) ps = programmed p (s + 1) olds news (cond (same_slot old new) ps (write_after ps p s new))

-- what port p holds changed but for its pointer, and just the n slots whose content by the books changed were written
pub record IsWritten (p n : ℕ) (was new : PortState) (before after : List Port) : Type 0 where
  pub pointer : new.pointer ≡ was.pointer
  pub count : n ≡ changed_slots (contents bits was.book.ranks) (contents bits new.book.ranks)
  pub most : n ≤ slots
  pub written : after ≡ programmed p 0 (contents bits was.book.ranks) (contents bits new.book.ranks) before

-- a change under way: how many slots it changed so far, the fabric, and the ports of the bank
pub record Change : Type 0 where
  pub slots : ℕ
  pub state : State
  pub ports : List Port

abbrev pub changing : ℕ → State → List Port → Change
changing n s ps = record { slots = n; state = s; ports = ps }

-- one port's book changes, and just the slots whose content by the books changed are written
abbrev pub changed_at : (Ranks → Ranks) → ℕ → Change → Change
changed_at change p c =
    let was = book_at c.state.books p in
    let old = contents bits was in
    let new = contents bits (change was) in
    changing (c.slots + changed_slots old new) (with_book c.state p (change was)) (programmed p 0 old new c.ports)

-- the same at each port of a path
abbrev pub changed_along : (Ranks → Ranks) → List ℕ → Change → Change
changed_along change [] c = c
changed_along change (p ∷ path) c = changed_along change path (changed_at change p c)
