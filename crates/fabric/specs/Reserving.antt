-- Reserving a session along a path of ports.
use Rattle.std.specs.Prelude.{ℕ, Bool, false, not, ◌&&◌, ◌||◌, List, [], ◌∷◌, length, take, Some, None, Ok, Err, Option, Result, ◌==◌, nat_le, nat_lt}
use Rattle.table.specs.declared.refusal.Reason.{Reason}
use Rattle.table.specs.declared.refusal.Reason.TheVariants.{NotStarted, BadNumber, BadPath, PortShut, AlreadyLive, NoRoom}
use Rattle.table.specs.declared.service.Service.{Service}
use Rattle.table.specs.Slots.{bits}
use Rattle.table.specs.Services.{service_for}
use Rattle.bank.specs.declared.port.Port.{Port}
use Rattle.bank.specs.Ports.{port_at}
use Rattle.book.specs.Books.{Ranks, free_ranks, holds, filled}
use Rattle.fabric.specs.declared.declined.Declined.{Declined}
use Rattle.fabric.specs.declared.questions.Admission.{Admission}
use Rattle.fabric.specs.Declines.{by_fabric, by_bank}
use Rattle.fabric.specs.States.{State, book_at, Outcome, outcome}
use Rattle.fabric.specs.Questions.{ask, ask_each, and_then}
use Rattle.fabric.specs.Changes.{changing, changed_along}

-- a session number is 1 to so many
abbrev pub most_number : ℕ
most_number = 65535

-- a path has 1 to so many hops
abbrev pub most_hops : ℕ
most_hops = 8

-- the lane of a session of a level
abbrev pub lane_of : ℕ → ℕ
lane_of level = level

-- the fabric was started on a bank with this port count
abbrev pub is_started : Option ℕ → ℕ → Bool
is_started None count = false
is_started (Some m) count = m == count

-- the port is listed
abbrev pub among : ℕ → List ℕ → Bool
among p [] = false
among p (x ∷ xs) = p == x || among p xs

-- some book has the session
abbrev pub is_live : ℕ → List Ranks → Bool
is_live number [] = false
is_live number (b ∷ books) = holds number b || is_live number books

-- was the fabric started on a bank with this port count?
abbrev pub ask_started : State → List Port → Result (Unit {0}) Declined
ask_started s ps = ask (is_started s.started (length ps)) (by_fabric NotStarted 0)

-- is it a session number?
abbrev pub ask_number : ℕ → Result (Unit {0}) Declined
ask_number number = ask (nat_le 1 number && nat_le number most_number) (by_fabric BadNumber 0)

-- can the level and the weight be served?
abbrev pub or_declined : Result Service Reason → Result Service Declined
or_declined (Ok service) = Ok service
or_declined (Err reason) = Err (by_fabric reason 0)

-- the port p at hop k is below the port count and not listed before
abbrev pub hop_fits : ℕ → List ℕ → ℕ → ℕ → Bool
hop_fits count path k p = nat_lt p count && not (among p (take k path))

abbrev pub ask_hops : ℕ → List ℕ → Result (Unit {0}) Declined
ask_hops count path = ask_each (hop_fits count path) (by_fabric BadPath) 0 path

-- has the path 1 to 8 ports, each below the port count and none listed before?
abbrev pub ask_path : ℕ → List ℕ → Result (Unit {0}) Declined
ask_path count path =
    and_then (ask (nat_le 1 (length path)) (by_fabric BadPath 0)) (λ _.
    and_then (ask (nat_le (length path) most_hops) (by_fabric BadPath most_hops)) (λ _.
    ask_hops count path))

-- is every port on the path open?
abbrev pub ask_open : List Port → List ℕ → Result (Unit {0}) Declined
ask_open ps path = ask_each (λ k p. (port_at ps p).«open») (by_bank PortShut) 0 path

-- is the number not live?
abbrev pub ask_new : ℕ → List Ranks → Result (Unit {0}) Declined
ask_new number books = ask (not (is_live number books)) (by_fabric AlreadyLive 0)

-- has every port on the path so many free ranks?
abbrev pub ask_room : ℕ → List Ranks → List ℕ → Result (Unit {0}) Declined
ask_room size books path = ask_each (λ k p. nat_le size (free_ranks bits (book_at books p))) (by_fabric NoRoom) 0 path

-- what enters the books for a session that is given this service
abbrev pub admission : ℕ → ℕ → ℕ → Service → Admission
admission number level weight service = record { service = service; session = record { number = number; lane = lane_of level; size = service.size; weight = weight } }

-- the questions of a reserve, in their order
abbrev pub admitted : State → List Port → ℕ → ℕ → ℕ → List ℕ → Result Admission Declined
admitted s ps number level weight path =
    and_then (ask_started s ps) (λ _.
    and_then (ask_number number) (λ _.
    and_then (or_declined (service_for level weight)) (λ service.
    and_then (ask_path (length ps) path) (λ _.
    and_then (ask_open ps path) (λ _.
    and_then (ask_new number s.books) (λ _.
    and_then (ask_room service.size s.books path) (λ _.
    Ok (admission number level weight service))))))))

-- what is answered: spacing, grant, and how many slots changed over all ports
abbrev pub Reservation : Type 0
Reservation = ℕ × ℕ × ℕ

-- an admitted session takes, at each port of the path, the free set of its size with the lowest first rank
abbrev pub entered : Admission → State → List Port → List ℕ → Outcome Reservation
entered a s ps path =
    let c = changed_along (λ b. filled bits b a.session) path (changing 0 s ps) in
    outcome (Ok (a.service.spacing, a.service.grant, c.slots)) c.state c.ports

abbrev pub if_admitted : Result Admission Declined → State → List Port → List ℕ → Outcome Reservation
if_admitted (Err e) s ps path = outcome (Err e) s ps
if_admitted (Ok a) s ps path = entered a s ps path

-- what a reserve answers and leaves
abbrev pub reserve_call : State → List Port → ℕ → ℕ → ℕ → List ℕ → Outcome Reservation
reserve_call s ps number level weight path = if_admitted (admitted s ps number level weight path) s ps path
