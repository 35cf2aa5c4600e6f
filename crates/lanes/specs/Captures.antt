-- Captured packets in bytes: a count of records, a lane for each, and a length for each. The count and the lengths have two bytes, the high one first.
use Rattle.std.specs.Prelude.{◌≡◌, ℕ, ◌+◌, ◌-◌, ◌*◌, ◌<◌, Bool, cond, ◌&&◌, List, [], ◌∷◌, map, length, Some, None, filter, Option, ◌==◌, slice_index}
use Rattle.std.specs.List.{range_with_len}
use Rattle.table.specs.Slots.{lane_count}
use Rattle.lanes.specs.Queues.{is_packet}

-- the number that stands at a place
abbrev pub two_bytes : List ℕ → ℕ → ℕ
two_bytes bs at = slice_index bs at * 256 + slice_index bs (at + 1)

-- the count as it is written
abbrev pub count_of : List ℕ → ℕ
count_of bs = two_bytes bs 0

-- the same, if the bytes are as many as it wants
abbrev pub counted : List ℕ → Option ℕ
counted bs = cond (length bs == 2 + 3 * count_of bs) (Some (count_of bs)) None

-- how many records there are: none where the length is another than the count wants
abbrev pub record_count : List ℕ → ℕ
record_count bs = cond (length bs == 2 + 3 * count_of bs) (count_of bs) 0

-- the lane of record k
abbrev pub lane_of : List ℕ → ℕ → ℕ
lane_of bs k = slice_index bs (2 + k)

-- the length of record k
abbrev pub length_of : List ℕ → ℕ → ℕ
length_of bs k = two_bytes bs (2 + count_of bs + 2 * k)

-- whether record k is a packet of the lane
abbrev pub is_for : List ℕ → ℕ → ℕ → Bool
is_for bs lane k = lane_of bs k == lane && is_packet (length_of bs k)

-- the packets of a lane, in order, from record `from` on
abbrev pub packets_from : List ℕ → ℕ → ℕ → List ℕ
packets_from bs from lane = map (length_of bs) (filter (is_for bs lane) (range_with_len from (record_count bs - from)))

-- the queues of captured packets before any is taken
abbrev pub captured : List ℕ → List (List ℕ)
captured bs = map (packets_from bs 0) (range_with_len 0 lane_count)

-- the packets of a lane that has come to record `next lane`
abbrev pub waiting : List ℕ → List ℕ → ℕ → List ℕ
waiting bs next lane = packets_from bs (slice_index next lane) lane

-- what is found from record `from` on: the first packet of the lane, with those behind it, or that there is none
abbrev pub Finds : List ℕ → ℕ → ℕ → Option ℕ → Type 0
Finds bs from lane None = packets_from bs from lane ≡ []
Finds bs from lane (Some k) = (k < record_count bs) × (packets_from bs from lane ≡ length_of bs k ∷ packets_from bs (k + 1) lane)
