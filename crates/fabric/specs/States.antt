-- What a fabric means, and what a call leaves.
use Rattle.std.specs.Prelude.{ℕ, List, [], map, Option, Result, slice_index_or, slice_set}
use Rattle.bank.specs.declared.port.Port.{Port}
use Rattle.book.specs.declared.book.Book.{Book}
use Rattle.book.specs.Books.{Ranks}
use Rattle.fabric.specs.declared.declined.Declined.{Declined}
use Rattle.fabric.specs.declared.fabric.Fabric.{Fabric}
use Rattle.fabric.specs.declared.fabric.Pointer.{Pointer}
use Rattle.fabric.specs.declared.fabric.PortState.{PortState}

-- the port count that it was started with, the entries of each book, and each port's pointer
pub record State : Type 0 where
  pub started : Option ℕ
  pub books : List Ranks
  pub pointers : List Pointer

abbrev pub entries : Book → Ranks
entries b = b.ranks

-- the entries of a port's book
abbrev pub ranks_of : PortState → Ranks
ranks_of p = entries p.book

-- a port's pointer
abbrev pub pointer_of : PortState → Pointer
pointer_of p = p.pointer

-- the state by the ports that are kept
abbrev pub state_of : Option ℕ → List PortState → State
state_of started ports = record { started = started; books = map ranks_of ports; pointers = map pointer_of ports }

-- what a fabric means
abbrev pub meaning : Fabric → State
meaning f = state_of f.started f.ports

-- the book of port p
abbrev pub book_at : List Ranks → ℕ → Ranks
book_at books p = slice_index_or books p []

-- the fabric with another book at port p
abbrev pub with_book : State → ℕ → Ranks → State
with_book s p b = record { started = s.started; books = slice_set s.books p b; pointers = s.pointers }

-- an answer, with the fabric and the ports of the bank after it
pub record Outcome (A : Type 0) : Type 0 where
  pub answer : Result A Declined
  pub state : State
  pub ports : List Port

abbrev pub outcome : {A : Type 0} → Result A Declined → State → List Port → Outcome A
outcome r s ps = record { answer = r; state = s; ports = ps }
