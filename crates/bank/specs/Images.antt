-- A table's image: its slots in order, two bytes each.
use Rattle.std.specs.Prelude.{◌≡◌, ℕ, ◌+◌, ◌*◌, ◌/◌, ◌%◌, ◌<◌, cond, List, [], ◌∷◌, ◌++◌, length, drop, Ok, Result, ◌==◌, nat_le, nat_lt, slice_index, slice_set}
use Rattle.table.specs.declared.slot.Slot.{Slot}
use Rattle.table.specs.declared.refusal.Refusal.{Refusal}
use Rattle.table.specs.declared.refusal.Reason.TheVariants.{NoSuchPort, NoSuchSlot, NoSuchLane, ShortBuffer}
use Rattle.table.specs.Slots.{slots, lane_count}
use Rattle.bank.specs.declared.port.Port.{Port}
use Rattle.bank.specs.Ports.{asked, port_at, slot_at}

-- an image has so many bytes
abbrev pub image_bytes : ℕ
image_bytes = 2 * slots

-- of a slot the lane comes first, and then the weight
abbrev pub image_of : List Slot → List ℕ
image_of [] = []
image_of (x ∷ xs) = x.lane ∷ (x.weight ∷ image_of xs)

-- whether the image of the port may be written into so many bytes
abbrev pub image_answer : List Port → ℕ → ℕ → Result (Unit {0}) Refusal
image_answer ps p size =
    asked (nat_lt p (length ps)) NoSuchPort
    (asked (nat_le image_bytes size) ShortBuffer
    (Ok tt))

-- the buffer afterwards: the image stands at its front, and the later bytes are as they were
abbrev pub image_after : List Port → ℕ → List ℕ → List ℕ
image_after ps p out =
    cond (nat_lt p (length ps))
    (cond (nat_le image_bytes (length out)) (image_of (port_at ps p).slots ++ drop image_bytes out) out)
    out

-- the slot s of an image: the high four bits of its first byte are zero, and the low four are its lane
abbrev pub read_slot : List ℕ → ℕ → Result Slot Refusal
read_slot image s =
    asked (nat_le image_bytes (length image)) ShortBuffer
    (asked (nat_lt s slots) NoSuchSlot
    (asked (slice_index image (2 * s) / 16 == 0) NoSuchLane
    (asked (nat_lt (slice_index image (2 * s) % 16) lane_count) NoSuchLane
    (Ok (record { lane = slice_index image (2 * s) % 16; weight = slice_index image (2 * s + 1) })))))

-- Each slot of the port is read back from the image.
abbrev pub ReadsBack : List Port → ℕ → List ℕ → Type 0
ReadsBack ps p image = (s : ℕ) → s < slots → read_slot image s ≡ Ok (slot_at ps p s)

-- the slot s as the bytes have it, whatever its lane
abbrev pub get_slot : List ℕ → ℕ → Slot
get_slot image s = record { lane = slice_index image (2 * s); weight = slice_index image (2 * s + 1) }

-- the bytes with another slot s
abbrev pub put_slot : List ℕ → ℕ → Slot → List ℕ
put_slot image s x = slice_set (slice_set image (2 * s) x.lane) (2 * s + 1) x.weight

-- the slots that an image holds
abbrev pub slots_of : List ℕ → List Slot
slots_of [] = []
slots_of (lane ∷ []) = []
slots_of (lane ∷ (weight ∷ more)) = record { lane = lane; weight = weight } ∷ slots_of more
