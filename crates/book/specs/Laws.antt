-- The laws of books, in words of sessions, sets and slots.
use Rattle.std.specs.Prelude.{◌≡◌, ℕ, zero, suc, ◌+◌, ◌/◌, ◌%◌, ◌^◌, ◌<◌, ◌≤◌, Bool, true, cond, ◌↔◌, List, ◌∷◌, length, get_or, Some, None, Option, MatchOption, ◌==◌, slice_index, slice_index_or}
use Rattle.table.specs.declared.slot.Slot.{Slot}
use Rattle.table.specs.Slots.{empty_slot}
use Rattle.table.specs.Reversal.{reversed}
use Rattle.table.specs.Services.{weight_at}
use Rattle.book.specs.declared.session.Session.{Session}
use Rattle.book.specs.Entries.{Ranks, size_at, grant_of}
use Rattle.book.specs.Sound.{Set, FreeSet}
use Rattle.book.specs.Standing.{Fits}
use Rattle.book.specs.Sessions.{sessions_of, without, SameSessions, spacings}
use Rattle.book.specs.Books.{free_ranks}
use Rattle.book.specs.Even.{Has, Even, Placeable}

-- the session of this number is in the book
abbrev pub InBook : Ranks → ℕ → Type 0
InBook xs number = (f : ℕ) × (s : Session) × (slice_index_or xs f None ≡ Some s) × (s.number ≡ number)

-- A session is put at rank f: it is one that a book takes and new, there was room, the set from f on is the lowest free one of its size, and the
-- book has the sessions that it had and this one.
pub record Taken (n : ℕ) (xs : Ranks) (s : Session) (ys : Ranks) (f : ℕ) : Type 0 where
  pub fit : Fits n s
  pub new : InBook xs s.number → ⊥
  pub room : s.size ≤ free_ranks n xs
  pub set : Set n f s.size
  pub free : FreeSet n (size_at xs) f s.size
  pub lowest : (g : ℕ) → Set n g s.size → FreeSet n (size_at xs) g s.size → f ≤ g
  pub sessions : SameSessions (sessions_of ys) (s ∷ sessions_of xs)

-- A session is refused: were it one that a book takes and new, fewer ranks would be free than it asks for. The book is as it was.
pub record Refused (n : ℕ) (xs : Ranks) (s : Session) (ys : Ranks) : Type 0 where
  pub why : Fits n s → (InBook xs s.number → ⊥) → free_ranks n xs < s.size
  pub same : ys ≡ xs

-- what fill-in answers and does
abbrev pub FillLaw : ℕ → Ranks → Session → Option ℕ → Ranks → Type 0
FillLaw n xs s place ys = MatchOption place (Refused n xs s ys) (Taken n xs s ys)

-- A release ends the session of this number: the others stay as they are, at other ranks, and its ranks are free.
pub record Ended (n : ℕ) (xs : Ranks) (number : ℕ) (ys : Ranks) : Type 0 where
  pub sessions : SameSessions (sessions_of ys) (without number (sessions_of xs))
  pub room : (f : ℕ) (s : Session) → slice_index_or xs f None ≡ Some s → s.number ≡ number → free_ranks n ys ≡ free_ranks n xs + s.size

-- A book has room for a session of spacing t, which has 2 ^ n / t slots, exactly where the book's sessions and this one together have an even
-- placement. The sessions may be listed in any order.
abbrev pub RoomLaw : ℕ → Ranks → ℕ → Bool → Type 0
RoomLaw n xs need room = (live : List Session) → SameSessions live (sessions_of xs)
    → (k t : ℕ) → k ≤ n → t ≡ 2 ^ k → need ≡ 2 ^ n / t → (room ≡ true) ↔ Placeable (2 ^ n) (t ∷ spacings n live)

-- what stands where no session is listed
abbrev pub no_session : Session
no_session = record { number = 0; lane = 0; size = 0; weight = 0 }

-- the sum of f below k
abbrev pub sum_below : (ℕ → ℕ) → ℕ → ℕ
sum_below f zero = 0
sum_below f (suc k) = f k + sum_below f k

-- The sessions stand in an even placement: the offset of each is the slot of its set's first rank. Each session's slots hold its lane and its
-- weights, which add up to its grant, and all other slots are empty.
pub record Placed (n : ℕ) (xs : Ranks) (live : List Session) (slots : List Slot) : Type 0 where
  pub offsets : List ℕ
  pub even : Even (2 ^ n) (spacings n live) offsets
  pub sets : (i : ℕ) → i < length live → (f : ℕ) × (slice_index_or xs f None ≡ Some (slice_index_or live i no_session)) × (slice_index offsets i ≡ reversed n f)
  pub lane : (i s : ℕ) → i < length live → s < 2 ^ n → Has (spacings n live) offsets i s → (get_or slots s empty_slot).lane ≡ (get_or live i no_session).lane
  pub weight : (i s : ℕ) → i < length live → s < 2 ^ n → Has (spacings n live) offsets i s
      → (get_or slots s empty_slot).weight ≡ weight_at (grant_of (slice_index_or live i no_session)) (get_or live i no_session).size (reversed n s)
  pub granted : (i : ℕ) → i < length live
      → sum_below (λ s. cond (s % slice_index (spacings n live) i == slice_index offsets i) (get_or slots s empty_slot).weight 0) (2 ^ n) ≡ grant_of (slice_index_or live i no_session)
  pub empty : (s : ℕ) → s < 2 ^ n → ((i : ℕ) → i < length live → Has (spacings n live) offsets i s → ⊥) → slice_index_or slots s empty_slot ≡ empty_slot

-- the slots of a book are an even placement of its sessions, in whatever order they are listed
abbrev pub PlacedLaw : ℕ → Ranks → List Slot → Type 0
PlacedLaw n xs slots = (live : List Session) → SameSessions live (sessions_of xs) → Placed n xs live slots
