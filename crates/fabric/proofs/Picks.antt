-- The turn of a port, by the slot that serves.
use Rattle.std.proofs.Common.{◌≡◌, ℕ, ◌+◌, ◌-◌, ◌%◌, ◌<◌, min, Bool, true, false, ◌&&◌, ltb, List, length, get_or, set, Some, None, Option, ⊎_elim, sym, ap, ◌∙◌, add-zero}
use native.Mathlib.Nat.{mod-add-mod}
use Rattle.std.proofs.lemmas.Bool.{cond-true, cond-false, cases_lt}
use Rattle.std.proofs.lemmas.List.{get_or_past}
use Rattle.table.specs.declared.slot.Slot.{Slot}
use Rattle.table.specs.Slots.{slots, empty_slot}
use Rattle.bank.specs.declared.port.Port.{Port}
use Rattle.bank.specs.Ports.{BankFits, port_at, no_port}
use Rattle.lanes.specs.Queues.{queue, rest}
use Rattle.fabric.specs.declared.fabric.Pointer.{Pointer}
use Rattle.fabric.specs.declared.picked.Picked.TheVariants.{Sent, Idle}
use Rattle.fabric.specs.Picking.{cost, Turn, slot_on, some, first, ready, usable, stays, sent, seek, turning, turn}
use Rattle.fabric.proofs.Seeks.{SeekLeft, seek_stop, seek_go, seek_through}

-- a credit is left, and a packet waits in the lane
abbrev pub can_send : List (List ℕ) → ℕ → ℕ → Bool
can_send qs credit lane = ltb 0 credit && some (queue qs lane)

-- the first packet of a slot's lane is sent, and the pointer stands at a place
abbrev pub sent_at : List (List ℕ) → ℕ → ℕ → Slot → ℕ → Turn
sent_at qs place d x credit = record {
  answer = Sent x.lane (first (queue qs x.lane)) d;
  pointer = record { slot = place; credit = credit - cost (first (queue qs x.lane)) };
  queues = set qs x.lane (rest (queue qs x.lane));
}

-- places go round
pub place_round : (table : List Slot) (k d : ℕ) → length table ≡ slots → (k % slots + d) % slots ≡ (k + d) % length table
place_round table k d long = mod-add-mod k slots d ∙ ap (λ n. (k + d) % n) (sym long)

pub slot_round : (table : List Slot) (k d : ℕ) → length table ≡ slots → slot_on table (k % slots + d) ≡ slot_on table (k + d)
slot_round table k d long = ap (λ n. get_or table n empty_slot) (ap (λ n. (k % slots + d) % n) long ∙ place_round table k d long)

-- the same at any port of a bank, also one that is not there
pub port_round : (ps : List Port) (fits : BankFits ps) (p k d : ℕ) → slot_on (port_at ps p).slots (k % slots + d) ≡ slot_on (port_at ps p).slots (k + d)
port_round ps fits p k d = ⊎_elim
    (λ lt. slot_round (port_at ps p).slots k d (fits.long p lt))
    (λ ge. let none : port_at ps p ≡ no_port = get_or_past ps p no_port ge in ap (λ (x : Port). slot_on x.slots (k % slots + d)) none ∙ sym (ap (λ (x : Port). slot_on x.slots (k + d)) none))
    (cases_lt p (length ps))

module _ (table : List Slot) (at : Pointer) (qs : List (List ℕ)) where
  -- the slot d places on, with how far that is
  abbrev pub step : ℕ → Option (ℕ × Slot)
  step d = Some (d, slot_on table (at.slot + d))

  -- the places from d on decide
  abbrev pub ReadyLeft : ℕ → Type 0
  ReadyLeft d = SeekLeft (ready table at qs) step None slots d

  pub ready_stop : (d : ℕ) (x : Slot) → slot_on table (at.slot % slots + d) ≡ slot_on table (at.slot + d) → d < slots + 1 → x ≡ slot_on table (at.slot % slots + d) → true ≡ can_send qs x.weight x.lane → ReadyLeft d
      → Some (d, x) ≡ seek (ready table at qs) step None 1 slots
  ready_stop d x round more is yes? was =
      let here : x ≡ slot_on table (at.slot + d) = is ∙ round in
      ap (λ (y : Slot). Some (d, y)) here
      ∙ seek_stop (ready table at qs) step None slots d more (ap (λ (y : Slot). can_send qs y.weight y.lane) (sym here) ∙ sym yes?) was

  pub ready_go : (d : ℕ) (x : Slot) → slot_on table (at.slot % slots + d) ≡ slot_on table (at.slot + d) → d < slots + 1 → x ≡ slot_on table (at.slot % slots + d) → false ≡ can_send qs x.weight x.lane → ReadyLeft d
      → ReadyLeft (d + 1)
  ready_go d x round more is no? was =
      let here : x ≡ slot_on table (at.slot + d) = is ∙ round in
      seek_go (ready table at qs) step None slots d more (ap (λ (y : Slot). can_send qs y.weight y.lane) (sym here) ∙ sym no?) was

  -- the turn by what was found behind the pointer's slot
  abbrev pub serve : Option (ℕ × Slot) → Turn
  serve None = record { answer = Idle (length table); pointer = at; queues = qs }
  serve (Some y) = sent_at qs ((at.slot + y.0) % length table) y.0 y.1 y.1.weight

  turn_go : (o : Option (ℕ × Slot)) → length table ≡ slots → stays table at qs ≡ false → o ≡ seek (ready table at qs) step None 1 slots → serve o ≡ turn table at qs
  unfolding turn
  turn_go o long no? is =
      ap serve (is ∙ ap (seek (ready table at qs) step None 1) (sym long))
      ∙ seek_through (ready table at qs) step None serve 1 (length table)
      ∙ sym (cond-false (stays table at qs) (sent table at qs 0 (usable table at)) (seek (ready table at qs) (λ d. sent table at qs d (slot_on table (at.slot + d)).weight) (serve None) 1 (length table)) no?)

  turn_stay : stays table at qs ≡ true → sent_at qs ((at.slot + 0) % length table) 0 (slot_on table (at.slot + 0)) (usable table at) ≡ turn table at qs
  unfolding turn
  turn_stay yes? =
      sym (cond-true (stays table at qs) (sent table at qs 0 (usable table at)) (seek (ready table at qs) (λ d. sent table at qs d (slot_on table (at.slot + d)).weight) (serve None) 1 (length table)) yes?)

  -- the pointer's own slot, by what was read
  own : (u : ℕ) (x : Slot) → x ≡ slot_on table at.slot → u ≡ min at.credit x.weight → can_send qs u x.lane ≡ stays table at qs
  own u x is least = ap (λ n. can_send qs n x.lane) least ∙ ap (λ (y : Slot). can_send qs (min at.credit y.weight) y.lane) is

  -- the pointer's own slot sends
  pub own_sends : (u place : ℕ) (x : Slot) → length table ≡ slots → x ≡ slot_on table at.slot → u ≡ min at.credit x.weight → place ≡ at.slot % slots
      → true ≡ can_send qs u x.lane → sent_at qs place 0 x u ≡ turn table at qs
  own_sends u place x long is least there yes? =
      ap (λ k. sent_at qs k 0 x u) (there ∙ ap (λ n. at.slot % n) (sym long))
      ∙ ap (sent_at qs (at.slot % length table) 0 x) least
      ∙ ap (λ (y : Slot). sent_at qs (at.slot % length table) 0 y (min at.credit y.weight)) is
      ∙ ap (λ k. sent_at qs (k % length table) 0 (slot_on table k) (usable table at)) (sym (add-zero at.slot))
      ∙ turn_stay (sym (yes? ∙ own u x is least))

  -- a slot behind it sends
  pub next_sends : (u d place : ℕ) (x y : Slot) → length table ≡ slots → x ≡ slot_on table at.slot → u ≡ min at.credit x.weight → false ≡ can_send qs u x.lane
      → Some (d, y) ≡ seek (ready table at qs) step None 1 slots → place ≡ (at.slot % slots + d) % slots → sent_at qs place d y y.weight ≡ turn table at qs
  next_sends u d place x y long is least no? found there =
      ap (λ k. sent_at qs k d y y.weight) (there ∙ place_round table at.slot d long)
      ∙ turn_go (Some (d, y)) long (sym (no? ∙ own u x is least)) found

  -- no slot serves
  pub none_sends : (u : ℕ) (x : Slot) → length table ≡ slots → x ≡ slot_on table at.slot → u ≡ min at.credit x.weight → false ≡ can_send qs u x.lane
      → None ≡ seek (ready table at qs) step None 1 slots → serve None ≡ turn table at qs
  none_sends u x long is least no? found = turn_go None long (sym (no? ∙ own u x is least)) found

-- a packet that was sent, by its parts
pub sent_turn : (qs rs : List (List ℕ)) (bytes place d credit : ℕ) (x : Slot) (to : Pointer) (done : Turn) → bytes ≡ first (queue qs x.lane)
    → to ≡ record { slot = place; credit = credit - cost (first (queue qs x.lane)) } → rs ≡ set qs x.lane (rest (queue qs x.lane))
    → sent_at qs place d x credit ≡ done → turning (Sent x.lane bytes d) to rs ≡ done
sent_turn qs rs bytes place d credit x to done length-is moved rest-is is = (λ i. turning (Sent x.lane (length-is i) d) (moved i) (rest-is i)) ∙ is

-- an idle port stays
pub idle_turn : (at : Pointer) (qs : List (List ℕ)) (table : List Slot) (done : Turn) → length table ≡ slots → serve table at qs None ≡ done → turning (Idle slots) at qs ≡ done
idle_turn at qs table done long is = (λ i. turning (Idle (sym long i)) at qs) ∙ is
