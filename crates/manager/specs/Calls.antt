-- The calls as values, and what each answers and leaves, from any state of the fabric and any content of bank and lanes.
use Rattle.std.specs.Prelude.{ℕ, List, Ok, Err, Result}
use Rattle.bank.specs.declared.port.Port.{Port}
use Rattle.fabric.specs.declared.declined.Declined.{Declined}
use Rattle.fabric.specs.States.{State, Outcome}
use Rattle.fabric.specs.Starting.{start_call}
use Rattle.fabric.specs.Reserving.{Reservation, reserve_call}
use Rattle.fabric.specs.Releasing.{release_call}
use Rattle.fabric.specs.Shutting.{shut_call, reopen_call}
use Rattle.fabric.specs.Picking.{Picking, pick_call}
use Rattle.manager.specs.declared.call.Call.{Call}
use Rattle.manager.specs.declared.call.Call.TheVariants.{Start, Reserve, Release, Shut, Reopen, Pick}
use Rattle.manager.specs.declared.call.Answer.{Answer}
use Rattle.manager.specs.declared.call.Answer.TheVariants.{Started, Reserved, Released, Shut as ShutNow, Reopened, Picked as PickedNow}

-- a call and its arguments
pub data Ask : Type 0 where
  start : Ask
  reserve : (number level weight : ℕ) (path : List ℕ) → Ask
  release : (number : ℕ) → Ask
  shut : (port : ℕ) → Ask
  reopen : (port : ℕ) → Ask
  pick : (port : ℕ) → Ask

abbrev pub asked : Call → Ask
asked Start = start
asked (Reserve number level weight path) = reserve number level weight path.now
asked (Release number) = release number
asked (Shut port) = shut port
asked (Reopen port) = reopen port
asked (Pick port) = pick port

-- an answer, with the fabric, the ports of the bank and the queues of the lanes after it
pub record Performed : Type 0 where
  pub answer : Result Answer Declined
  pub state : State
  pub ports : List Port
  pub queues : List (List ℕ)

abbrev pub leaving : Result Answer Declined → State → List Port → List (List ℕ) → Performed
leaving r s ps qs = record { answer = r; state = s; ports = ps; queues = qs }

-- what an accepted call gives, as an answer
abbrev pub answering : {A : Type 0} → (A → Answer) → Result A Declined → Result Answer Declined
answering name (Ok x) = Ok (name x)
answering name (Err e) = Err e

-- a call on fabric and bank, which leaves the lanes as they are
abbrev pub on_bank : {A : Type 0} → (A → Answer) → Outcome A → List (List ℕ) → Performed
on_bank name o qs = leaving (answering name o.answer) o.state o.ports qs

-- a call on fabric and lanes, which leaves the bank as it is
abbrev pub on_lanes : Picking → List Port → Performed
on_lanes k ps = leaving (answering PickedNow k.answer) k.state ps k.queues

-- what a reserve gives, as an answer
abbrev pub reserved_now : Reservation → Answer
reserved_now r = Reserved r.0 r.1 r.2

-- what a call answers and leaves
unfoldable pub performed : State → List Port → List (List ℕ) → Ask → Performed
performed s ps qs start = on_bank (λ _. Started) (start_call s ps) qs
performed s ps qs (reserve number level weight path) = on_bank reserved_now (reserve_call s ps number level weight path) qs
performed s ps qs (release number) = on_bank Released (release_call s ps number) qs
performed s ps qs (shut port) = on_bank (λ _. ShutNow) (shut_call s ps port) qs
performed s ps qs (reopen port) = on_bank (λ _. Reopened) (reopen_call s ps port) qs
performed s ps qs (pick port) = on_lanes (pick_call s ps qs port) ps
