-- Slots and ports emptied one after the other.
use Rattle.std.proofs.Common.{◌≡◌, ℕ, ◌+◌, ◌<◌, true, List, [], ◌∷◌, ◌++◌, map, length, get_or, take, drop, set, replicate, sym, ap, ◌∙◌, subst, arith}
use Rattle.std.proofs.lemmas.List.{append_assoc, append-nil, drop_more, drop_all, set_at, set-set, get_or_at, get_or-set_same, length-set, length-replicate, length-take-le, length-map, replicate_more, map_more}
use Rattle.std.proofs.lemmas.Bool.{lt-ltb}
use Rattle.table.specs.declared.slot.Slot.{Slot}
use Rattle.table.specs.Slots.{slots, lane_count, empty_slot}
use Rattle.bank.specs.declared.port.Port.{Port}
use Rattle.bank.specs.Ports.{port_at, no_port, with_slots, write_after}
use Rattle.fabric.specs.Starting.{emptied_port}

-- one slot more is empty
slot_more : (ys : List Slot) (s : ℕ) → s < length ys → set (replicate s empty_slot ++ drop s ys) s empty_slot ≡ replicate (s + 1) empty_slot ++ drop (s + 1) ys
slot_more ys s h =
    ap (λ z. set (replicate s empty_slot ++ z) s empty_slot) (drop_more ys s empty_slot h)
    ∙ set_at (replicate s empty_slot) (get_or ys s empty_slot) (drop (s + 1) ys) empty_slot s (length-replicate s empty_slot)
    ∙ sym (append_assoc (replicate s empty_slot) (empty_slot ∷ []) (drop (s + 1) ys))
    ∙ ap (λ z. z ++ drop (s + 1) ys) (replicate_more s empty_slot)

-- a write that is accepted
pub write_accepted : (ps : List Port) (p s : ℕ) (w : Slot) → p < length ps → s < slots → w.lane < lane_count → (port_at ps p).«open» ≡ true
    → write_after ps p s w ≡ with_slots ps p (set (port_at ps p).slots s w)
write_accepted ps p s w within below lane opened = simp (lt-ltb p (length ps) within, lt-ltb s slots below, lt-ltb w.lane lane_count lane, opened)

module _ (ps : List Port) (p : ℕ) (within : p < length ps) (opened : (port_at ps p).«open» ≡ true) where
  -- the same at a port whose slots have changed
  pub write_again : (xs : List Slot) (s : ℕ) (w : Slot) → s < slots → w.lane < lane_count → write_after (with_slots ps p xs) p s w ≡ with_slots ps p (set xs s w)
  write_again xs s w below lane =
      let new : Port = record { «open» = (port_at ps p).«open»; slots = xs } in
      let is : port_at (set ps p new) p ≡ new = get_or-set_same ps p new no_port within in
      write_accepted (set ps p new) p s w (subst (λ n. p < n) (sym (length-set ps p new)) within) below lane (ap (λ (x : Port). x.«open») is ∙ opened)
      ∙ set-set ps p new (record { «open» = (port_at (set ps p new) p).«open»; slots = set (port_at (set ps p new) p).slots s w })
      ∙ ap (λ (x : Port). set ps p (record { «open» = x.«open»; slots = set x.slots s w })) is

  pub empty_more : (s : ℕ) → s < slots → length (port_at ps p).slots ≡ slots
      → write_after (with_slots ps p (replicate s empty_slot ++ drop s (port_at ps p).slots)) p s empty_slot
      ≡ with_slots ps p (replicate (s + 1) empty_slot ++ drop (s + 1) (port_at ps p).slots)
  empty_more s below long =
      write_again (replicate s empty_slot ++ drop s (port_at ps p).slots) s empty_slot below (omega arith)
      ∙ ap (with_slots ps p) (slot_more (port_at ps p).slots s (omega arith))

pub empty_all : (ps : List Port) (p s : ℕ) → s ≡ slots → length (port_at ps p).slots ≡ slots → with_slots ps p (replicate s empty_slot ++ drop s (port_at ps p).slots) ≡ set ps p (emptied_port (port_at ps p))
empty_all ps p s is long =
    ap (λ n. with_slots ps p (replicate n empty_slot ++ drop n (port_at ps p).slots)) is
    ∙ ap (λ z. with_slots ps p (replicate slots empty_slot ++ z)) (drop_all slots (port_at ps p).slots (omega arith))
    ∙ ap (with_slots ps p) (append-nil (replicate slots empty_slot))

-- ports emptied up to p
abbrev pub emptied_to : ℕ → List Port → List Port
emptied_to p ps = map emptied_port (take p ps) ++ drop p ps

module _ (ps : List Port) (p : ℕ) (within : p < length ps) where
  front : length (map emptied_port (take p ps)) ≡ p
  front = length-map (take p ps) emptied_port ∙ length-take-le p ps (omega arith)

  split : emptied_to p ps ≡ map emptied_port (take p ps) ++ get_or ps p no_port ∷ drop (p + 1) ps
  split = ap (λ z. map emptied_port (take p ps) ++ z) (drop_more ps p no_port within)

  pub next_port : port_at (emptied_to p ps) p ≡ port_at ps p
  next_port = ap (λ z. get_or z p no_port) split ∙ get_or_at (map emptied_port (take p ps)) (get_or ps p no_port) (drop (p + 1) ps) no_port p front

  pub port_more : set (emptied_to p ps) p (emptied_port (port_at (emptied_to p ps) p)) ≡ emptied_to (p + 1) ps
  port_more =
      ap (λ (x : Port). set (emptied_to p ps) p (emptied_port x)) next_port
      ∙ ap (λ z. set z p (emptied_port (port_at ps p))) split
      ∙ set_at (map emptied_port (take p ps)) (get_or ps p no_port) (drop (p + 1) ps) (emptied_port (port_at ps p)) p front
      ∙ sym (append_assoc (map emptied_port (take p ps)) (emptied_port (port_at ps p) ∷ []) (drop (p + 1) ps))
      ∙ ap (λ z. z ++ drop (p + 1) ps) (sym (map_more emptied_port ps p no_port within))
