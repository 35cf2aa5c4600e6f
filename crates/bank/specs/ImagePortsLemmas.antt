-- Ports that are kept as images, beside what they mean.
use Rattle.std.specs.Prelude.{◌≡◌, ℕ, ◌+◌, ◌*◌, ◌<◌, Bool, List, map, length, get_or, set, Ok, slice_index, slice_index_or, slice_set}
use Rattle.std.proofs.Common.{sym, ap, ◌∙◌, arith}
use Rattle.std.proofs.lemmas.List.{map-set, get_or-map}
use Rattle.table.specs.declared.slot.Slot.{Slot}
use Rattle.table.specs.Slots.{slots, lane_count, empty_slot}
use Rattle.bank.specs.declared.port.Port.{Port}
use Rattle.bank.specs.declared.image_port.ImagePort.{ImagePort}
use Rattle.bank.specs.Ports.{no_port, port_at, slot_at, with_slots, with_state}
use Rattle.bank.specs.Images.{image_bytes, read_slot, put_slot, slots_of}
use Rattle.bank.specs.ImagePorts.{no_image, image_at, port_of}
use Rattle.bank.specs.ImagesLemmas.{slots_put, slot_of, length_slots, read_as}

module _ (qs : List ImagePort) (p : ℕ) (within : p < length qs) where
  pub port_means : port_at (map port_of qs) p ≡ port_of (slice_index_or qs p no_image)
  port_means = get_or-map port_of qs p no_image no_port within

  -- another state
  pub means_state : (b : Bool) → map port_of (slice_set qs p (record { «open» = b; image = image_at qs p })) ≡ with_state (map port_of qs) p b
  means_state b = map-set port_of qs p _ ∙ ap (λ (r : Port). set (map port_of qs) p (record { «open» = b; slots = r.slots })) (sym port_means)

  -- another slot
  pub means_slot : (s : ℕ) (w : Slot) (bs : List ℕ) → bs ≡ put_slot (image_at qs p) s w → 2 * s + 1 < length (image_at qs p)
      → map port_of (slice_set qs p (record { «open» = (get_or qs p no_image).«open»; image = bs })) ≡ with_slots (map port_of qs) p (slice_set (port_at (map port_of qs) p).slots s w)
  means_slot s w bs is h =
      map-set port_of qs p _
      ∙ ap (λ (xs : List Slot). set (map port_of qs) p (record { «open» = (get_or qs p no_image).«open»; slots = xs })) (ap slots_of is ∙ slots_put (image_at qs p) s w h)
      ∙ ap (λ (r : Port). set (map port_of qs) p (record { «open» = r.«open»; slots = slice_set r.slots s w })) (sym port_means)

  pub full_means : length (image_at qs p) ≡ image_bytes → length (port_at (map port_of qs) p).slots ≡ slots
  full_means e = ap (λ (r : Port). length r.slots) port_means ∙ length_slots slots (image_at qs p) e

  -- a slot is read as it is meant
  pub read_means : (s : ℕ) → length (image_at qs p) ≡ image_bytes → s < slots → (slot_at (map port_of qs) p s).lane < lane_count
      → read_slot (image_at qs p) s ≡ Ok (slot_at (map port_of qs) p s)
  read_means s e low fits =
      let is : slot_at (map port_of qs) p s ≡ record { lane = slice_index (image_at qs p) (2 * s); weight = slice_index (image_at qs p) (2 * s + 1) } =
      ap (λ (r : Port). get_or r.slots s empty_slot) port_means ∙ slot_of (image_at qs p) s (omega arith) in
      read_as (image_at qs p) s (slot_at (map port_of qs) p s) (omega arith) low (ap (λ (x : Slot). x.lane) (sym is)) (ap (λ (x : Slot). x.weight) (sym is)) fits
