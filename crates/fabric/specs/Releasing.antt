-- Releasing a session at all its ports.
use Rattle.std.specs.Prelude.{ℕ, ◌+◌, Bool, cond, not, ◌||◌, List, [], ◌∷◌, Ok, Err, Result}
use Rattle.table.specs.declared.refusal.Reason.TheVariants.{PortShut, NotLive}
use Rattle.table.specs.Slots.{bits}
use Rattle.bank.specs.declared.port.Port.{Port}
use Rattle.bank.specs.Ports.{port_at}
use Rattle.book.specs.Books.{Ranks, holds, released}
use Rattle.fabric.specs.declared.declined.Declined.{Declined}
use Rattle.fabric.specs.Declines.{by_fabric, by_bank}
use Rattle.fabric.specs.States.{State, book_at, Outcome, outcome}
use Rattle.fabric.specs.Questions.{ask, ask_each, and_then}
use Rattle.fabric.specs.Changes.{Change, changing, changed_at, changed_along}
use Rattle.fabric.specs.Reserving.{is_live, ask_started, ask_number}

-- is the number live?
abbrev pub ask_live : ℕ → List Ranks → Result (Unit {0}) Declined
ask_live number books = ask (is_live number books) (by_fabric NotLive 0)

-- the book does not hold the session, or its port p is open
abbrev pub free_or_open : ℕ → List Port → ℕ → Ranks → Bool
free_or_open number ps p b = not (holds number b) || (port_at ps p).«open»

-- is every port that holds it open? No: at the lowest shut one.
abbrev pub ask_holders : ℕ → List Ranks → List Port → Result (Unit {0}) Declined
ask_holders number books ps = ask_each (free_or_open number ps) (by_bank PortShut) 0 books

-- the questions of a release, in their order
abbrev pub release_answer : State → List Port → ℕ → Result (Unit {0}) Declined
release_answer s ps number =
    and_then (ask_started s ps) (λ _.
    and_then (ask_number number) (λ _.
    and_then (ask_live number s.books) (λ _.
    ask_holders number s.books ps)))

-- the ports, from p on, whose book holds the session
abbrev pub holders : ℕ → ℕ → List Ranks → List ℕ
holders number p [] = []
holders number p (b ∷ books) = cond (holds number b) (p ∷ holders number (p + 1) books) (holders number (p + 1) books)

-- at port p the session ends, if the book holds it
abbrev pub released_at : ℕ → ℕ → Change → Change
released_at number p c = cond (holds number (book_at c.state.books p)) (changed_at (λ b. released bits b number) p c) c

-- at each port that holds it the session ends, and others move; answered is how many slots changed over all ports
abbrev pub ended : State → List Port → ℕ → Outcome ℕ
ended s ps number =
    let c = changed_along (λ b. released bits b number) (holders number 0 s.books) (changing 0 s ps) in
    outcome (Ok c.slots) c.state c.ports

abbrev pub if_released : Result (Unit {0}) Declined → State → List Port → ℕ → Outcome ℕ
if_released (Err e) s ps number = outcome (Err e) s ps
if_released (Ok u) s ps number = ended s ps number

-- what a release answers and leaves
abbrev pub release_call : State → List Port → ℕ → Outcome ℕ
release_call s ps number = if_released (release_answer s ps number) s ps number
