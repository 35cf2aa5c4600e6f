-- Slots of an arbitration table.
use Rattle.std.specs.Prelude.{ℕ, Bool, ◌&&◌, ◌==◌}
use Rattle.table.specs.declared.slot.Slot.{Slot}

-- a table has so many slots, numbered by so many bits
abbrev pub bits : ℕ
bits = 6

abbrev pub slots : ℕ
slots = 64

-- a slot carries at most so many units
abbrev pub most_weight : ℕ
most_weight = 255

-- a port carries so many lanes, numbered from 0
abbrev pub lane_count : ℕ
lane_count = 15

-- an empty slot holds lane 0 and weight 0
abbrev pub empty_slot : Slot
empty_slot = record { lane = 0; weight = 0 }

abbrev pub same_slot : Slot → Slot → Bool
same_slot a b = a.lane == b.lane && a.weight == b.weight
