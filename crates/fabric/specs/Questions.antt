-- Questions in a row: the first that is answered no declines.
use Rattle.std.specs.Prelude.{◌≡◌, ℕ, ◌+◌, Bool, cond, List, [], ◌∷◌, Some, Ok, Err, Result, slice_get}
use Rattle.std.specs.Borrow.{Bor}
use Rattle.fabric.specs.declared.declined.Declined.{Declined}

-- one question: its answer, and what it declines with
abbrev pub ask : Bool → Declined → Result (Unit {0}) Declined
ask yes? declined = cond yes? (Ok tt) (Err declined)

-- the same question at each place from k on: the first place with the answer no declines
abbrev pub ask_each : {X : Type 0} → (ℕ → X → Bool) → (ℕ → Declined) → ℕ → List X → Result (Unit {0}) Declined
ask_each test declined k [] = Ok tt
ask_each test declined k (x ∷ xs) = cond (test k x) (ask_each test declined (k + 1) xs) (Err (declined k))

-- what a question may answer at each place of a list is what the test says
abbrev pub Answers : {X : Type 0} → (ℕ → Bor X → Bool → Type 0) → (ℕ → X → Bool) → List X → Type 0
Answers {X} may test xs = (place : ℕ) (x : Bor X) (yes? : Bool) → slice_get xs place ≡ Some x.now → may place x yes? → yes? ≡ test place x.now

-- what may decline a place is what is said of it
abbrev pub Declines : (ℕ → Declined → Type 0) → (ℕ → Declined) → Type 0
Declines may declined = (place : ℕ) (d : Declined) → may place d → d ≡ declined place

-- what is asked next, where nothing declined so far
abbrev pub and_then : {A B : Type 0} → Result A Declined → (A → Result B Declined) → Result B Declined
and_then (Ok x) next = next x
and_then (Err e) next = Err e
