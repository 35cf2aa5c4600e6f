-- What happened since an accepted start, the newest event first, and what follows from it alone.
use Rattle.std.specs.Prelude.{◌≡◌, ℕ, ◌+◌, Bool, true, false, cond, ◌&&◌, ◌||◌, List, [], ◌∷◌, ◌++◌, Ok, Err, Result, ◌==◌, slice_index, slice_index_or}
use Rattle.table.specs.Slots.{bits}
use Rattle.table.specs.Services.{distances, spacing, size_of}
use Rattle.lanes.specs.Queues.{queue, rest}
use Rattle.book.specs.declared.session.Session.{Session}
use Rattle.book.specs.Sessions.{without}
use Rattle.fabric.specs.declared.declined.Declined.{Declined}
use Rattle.fabric.specs.declared.picked.Picked.TheVariants.{Sent, Idle}
use Rattle.fabric.specs.Picking.{cost}
use Rattle.fabric.specs.Reserving.{lane_of, among}
use Rattle.manager.specs.declared.call.Answer.{Answer}
use Rattle.manager.specs.declared.call.Answer.TheVariants.{Started, Reserved, Released, Shut, Reopened, Picked}
use Rattle.manager.specs.Calls.{Ask, start, reserve, release, shut, reopen, pick}

-- a call and what it got, or a packet of so many bytes that joined the end of a lane of a port
pub data Event : Type 0 where
  called : Ask → Result Answer Declined → Event
  joined : (port lane bytes : ℕ) → Event

abbrev pub History : Type 0
History = List Event

-- how many slots there are from one turn to the next, for a level and a weight asked
abbrev pub spacing_for : ℕ → ℕ → ℕ
spacing_for level weight = spacing bits (slice_index distances level) weight

-- the session that a reserve asks for: its number, its lane, how many slots it has, and the weight asked
abbrev pub booked : ℕ → ℕ → ℕ → Session
booked number level weight = record { number = number; lane = lane_of level; size = size_of bits (spacing_for level weight); weight = weight }

-- a session of this number is listed
abbrev pub has : ℕ → List Session → Bool
has number [] = false
has number (x ∷ xs) = x.number == number || has number xs

-- the sessions of port p after an accepted call
abbrev pub changed : Ask → ℕ → List Session → List Session
changed start p xs = []
changed (reserve number level weight path) p xs = cond (among p path) (booked number level weight ∷ xs) xs
changed (release number) p xs = without number xs
changed (shut q) p xs = xs
changed (reopen q) p xs = xs
changed (pick q) p xs = xs

-- the sessions that are live at port p
abbrev pub live : History → ℕ → List Session
live [] p = []
live (joined q v b ∷ h) p = live h p
live (called c (Err e) ∷ h) p = live h p
live (called c (Ok a) ∷ h) p = changed c p (live h p)

-- the sessions of port p do not change in the later part of a history
abbrev pub Unchanged : ℕ → History → History → Type 0
Unchanged p [] earlier = Unit {0}
Unchanged p (e ∷ later) earlier = (live (e ∷ (later ++ earlier)) p ≡ live (later ++ earlier) p) × Unchanged p later earlier

-- whether port p is open after an accepted call
abbrev pub opened : Ask → ℕ → Bool → Bool
opened start p was = was
opened (reserve number level weight path) p was = was
opened (release number) p was = was
opened (shut q) p was = cond (q == p) false was
opened (reopen q) p was = cond (q == p) true was
opened (pick q) p was = was

-- whether port p is open; a start is only accepted where all are
abbrev pub is_open : History → ℕ → Bool
is_open [] p = true
is_open (joined q v b ∷ h) p = is_open h p
is_open (called c (Err e) ∷ h) p = is_open h p
is_open (called c (Ok a) ∷ h) p = opened c p (is_open h p)

-- the answer is of a packet
abbrev pub sends : Answer → Bool
sends Started = false
sends (Reserved t g k) = false
sends (Released k) = false
sends Shut = false
sends Reopened = false
sends (Picked (Sent v b k)) = true
sends (Picked (Idle k)) = false

-- it is of a packet of lane v
abbrev pub sends_from : ℕ → Answer → Bool
sends_from v Started = false
sends_from v (Reserved t g k) = false
sends_from v (Released k) = false
sends_from v Shut = false
sends_from v Reopened = false
sends_from v (Picked (Sent u b k)) = u == v
sends_from v (Picked (Idle k)) = false

-- what that packet costs
abbrev pub paid : Answer → ℕ
paid Started = 0
paid (Reserved t g k) = 0
paid (Released k) = 0
paid Shut = 0
paid Reopened = 0
paid (Picked (Sent u b k)) = cost b
paid (Picked (Idle k)) = 0

-- the call is a pick at port p
abbrev pub picks_at : ℕ → Ask → Bool
picks_at p start = false
picks_at p (reserve number level weight path) = false
picks_at p (release number) = false
picks_at p (shut q) = false
picks_at p (reopen q) = false
picks_at p (pick q) = q == p

-- the packets that wait in lane v of port p, the first first; before the history these were  was
abbrev pub waits : List (List (List ℕ)) → History → ℕ → ℕ → List ℕ
waits was [] p v = queue (slice_index_or was p []) v
waits was (joined q u b ∷ h) p v = cond (q == p && u == v) (waits was h p v ++ b ∷ []) (waits was h p v)
waits was (called c (Err e) ∷ h) p v = waits was h p v
waits was (called c (Ok a) ∷ h) p v = cond (picks_at p c && sends_from v a) (rest (waits was h p v)) (waits was h p v)

-- no pick at port p answered a packet of lane v
abbrev pub PassedBy : ℕ → ℕ → History → Type 0
PassedBy p v [] = Unit {0}
PassedBy p v (joined q u b ∷ h) = PassedBy p v h
PassedBy p v (called c (Err e) ∷ h) = PassedBy p v h
PassedBy p v (called c (Ok a) ∷ h) = (picks_at p c ≡ true → sends_from v a ≡ false) × PassedBy p v h

-- every accepted pick at port p answered a packet
abbrev pub AllSend : ℕ → History → Type 0
AllSend p [] = Unit {0}
AllSend p (joined q u b ∷ h) = AllSend p h
AllSend p (called c (Err e) ∷ h) = AllSend p h
AllSend p (called c (Ok a) ∷ h) = (picks_at p c ≡ true → sends a ≡ true) × AllSend p h

-- what the packets picked at port p cost together
abbrev pub spent : ℕ → History → ℕ
spent p [] = 0
spent p (joined q u b ∷ h) = spent p h
spent p (called c (Err e) ∷ h) = spent p h
spent p (called c (Ok a) ∷ h) = cond (picks_at p c) (paid a) 0 + spent p h
