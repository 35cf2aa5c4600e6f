-- The questions that a call asks, in their order, answered by what happened before it.
use Rattle.std.specs.Prelude.{◌≡◌, ℕ, ◌+◌, ◌*◌, ◌<◌, ◌≤◌, true, false, ◌⊎◌, List, [], ◌∷◌, ◌++◌, length, take, Ok, Err, Result}
use Rattle.std.specs.List.{range_with_len}
use Rattle.table.specs.declared.refusal.Reason.TheVariants.{BadNumber, BadLevel, BadWeight, BadPath, PortShut, AlreadyLive, NoRoom, NotLive, NoSuchPort}
use Rattle.table.specs.Slots.{bits, slots, most_weight}
use Rattle.table.specs.Services.{distances}
use Rattle.book.specs.Sessions.{spacings}
use Rattle.book.specs.Even.{Placeable}
use Rattle.fabric.specs.declared.declined.Declined.{Declined}
use Rattle.fabric.specs.Declines.{by_fabric, by_bank}
use Rattle.fabric.specs.Reserving.{most_number, most_hops, among}
use Rattle.manager.specs.Calls.{Ask, start, reserve, release, shut, reopen, pick}
use Rattle.manager.specs.Histories.{History, spacing_for, has, live, is_open}

-- a question, and what a call is declined with where its answer is no
pub record Question : Type 1 where
  pub yes? : Type 0
  pub else? : Declined

abbrev pub question : Type 0 → Declined → Question
question q d = record { yes? = q; else? = d }

-- a question for each of a list, with its place from k on
abbrev pub each : (ℕ → ℕ → Question) → ℕ → List ℕ → List Question
each q k [] = []
each q k (x ∷ xs) = q k x ∷ each q (k + 1) xs

-- the session of this number is live at some port
abbrev pub IsLive : History → ℕ → Type 0
IsLive h number = (p : ℕ) × (has number (live h p) ≡ true)

-- the sessions that are live at port p and one more of spacing t have an even placement together
abbrev pub Room : History → ℕ → ℕ → Type 0
Room h t p = Placeable slots (t ∷ spacings bits (live h p))

-- What each call asks, on a bank of so many ports, after h. That the fabric was started on this bank is asked too: within a history it was.
abbrev pub questions : ℕ → History → Ask → List Question
questions count h start = each (λ k p. question (is_open h p ≡ true) (by_bank PortShut p)) 0 (range_with_len 0 count)
questions count h (reserve number level weight path) =
    question ((1 ≤ number) × (number ≤ most_number)) (by_fabric BadNumber 0)
    ∷ question (level < length distances) (by_fabric BadLevel 0)
    ∷ question ((1 ≤ weight) × (weight ≤ most_weight * slots)) (by_fabric BadWeight 0)
    ∷ question (1 ≤ length path) (by_fabric BadPath 0)
    ∷ question (length path ≤ most_hops) (by_fabric BadPath most_hops)
    ∷ (each (λ k p. question ((p < count) × (among p (take k path) ≡ false)) (by_fabric BadPath k)) 0 path
    ++ (each (λ k p. question (is_open h p ≡ true) (by_bank PortShut k)) 0 path
    ++ (question (IsLive h number → ⊥) (by_fabric AlreadyLive 0)
    ∷ each (λ k p. question (Room h (spacing_for level weight) p) (by_fabric NoRoom k)) 0 path)))
questions count h (release number) =
    question ((1 ≤ number) × (number ≤ most_number)) (by_fabric BadNumber 0)
    ∷ question (IsLive h number) (by_fabric NotLive 0)
    ∷ each (λ k p. question (has number (live h p) ≡ true → is_open h p ≡ true) (by_bank PortShut p)) 0 (range_with_len 0 count)
questions count h (shut p) = question (p < count) (by_bank NoSuchPort 0) ∷ []
questions count h (reopen p) = question (p < count) (by_bank NoSuchPort 0) ∷ []
questions count h (pick p) = question (p < count) (by_bank NoSuchPort 0) ∷ question (is_open h p ≡ true) (by_bank PortShut 0) ∷ []

-- the call was accepted
abbrev pub Accepted : {A : Type 0} → Result A Declined → Type 0
Accepted (Ok a) = Unit {0}
Accepted (Err e) = ⊥

-- what is asked decides: the first question that is answered no declines, and where none is, the call is accepted
abbrev pub Verdict : {A : Type 0} → List Question → Result A Declined → Type 0
Verdict [] r = Accepted r
Verdict (q ∷ qs) r = (q.yes? × Verdict qs r) ⊎ ((q.yes? → ⊥) × (r ≡ Err q.else?))
