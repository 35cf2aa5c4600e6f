-- The slots that a book gives, and which of them a change of the book changes.
use Rattle.std.specs.Prelude.{◌≡◌, ℕ, suc, ◌+◌, ◌*◌, ◌^◌, ◌<◌, ◌≤◌, Bool, true, cond, not, ◌&&◌, ◌⊎◌, List, [], ◌∷◌, map, length, Some, None, Option, nat_le, nat_lt, slice_index_or}
use Rattle.std.specs.List.{range_with_len}
use Rattle.table.specs.declared.slot.Slot.{Slot}
use Rattle.table.specs.Slots.{most_weight, empty_slot, same_slot}
use Rattle.table.specs.Reversal.{reversed}
use Rattle.table.specs.Services.{weight_at}
use Rattle.book.specs.declared.session.Session.{Session}
use Rattle.book.specs.Entries.{Ranks, size_of, grant_of}

-- the session that holds the rank r; the list begins at rank f
abbrev pub holder_from : ℕ → Ranks → ℕ → Option Session
holder_from f [] r = None
holder_from f (x ∷ xs) r = cond (nat_le f r && nat_lt r (f + size_of x)) x (holder_from (suc f) xs r)

-- what the slot of rank r holds for the session that holds the rank: its lane and its weight there
abbrev pub slot_for : ℕ → Option Session → Slot
slot_for r None = empty_slot
slot_for r (Some s) = record { lane = s.lane; weight = weight_at (grant_of s) s.size r }

-- the session holds ranks, and so many slots carry its weight
abbrev pub carried : Option Session → Bool
carried None = true
carried (Some s) = nat_le 1 s.size && nat_le s.weight (most_weight * s.size)

-- A table of 2 ^ n slots after those of the m ranks from f on are written, each with what its rank gives.
pub record Lays (n : ℕ) (was new : List Slot) (f m : ℕ) (what : ℕ → Slot) : Type 0 where
  pub long : length new ≡ length was
  pub held : (z : ℕ) → z < 2 ^ n → f ≤ reversed n z → reversed n z < f + m → slice_index_or new z empty_slot ≡ what (reversed n z)
  pub others : (z : ℕ) → z < 2 ^ n → (reversed n z < f) ⊎ (f + m ≤ reversed n z) → slice_index_or new z empty_slot ≡ slice_index_or was z empty_slot

-- slot s of 2 ^ n is for the session that holds the rank of s
abbrev pub slot_in : ℕ → Ranks → ℕ → Slot
slot_in n xs s = slot_for (reversed n s) (holder_from 0 xs (reversed n s))

-- the slots of a table of 2 ^ n that the book gives
unfoldable pub contents : ℕ → Ranks → List Slot
contents n xs = map (slot_in n xs) (range_with_len 0 (2 ^ n))

-- two slots differ in content
abbrev pub differ : Slot → Slot → Bool
differ a b = not (same_slot a b)

-- how many slots differ from one table to another
unfoldable pub changed_slots : List Slot → List Slot → ℕ
changed_slots [] new = 0
changed_slots (a ∷ old) [] = 0
changed_slots (a ∷ old) (b ∷ new) = cond (differ a b) 1 0 + changed_slots old new

-- a table in which just the slots that differ from old to new are written, as in new
unfoldable pub written : List Slot → List Slot → List Slot → List Slot
written [] old new = []
written (x ∷ was) [] new = x ∷ was
written (x ∷ was) (a ∷ old) [] = x ∷ was
written (x ∷ was) (a ∷ old) (b ∷ new) = cond (differ a b) b x ∷ written was old new
