-- The room of one lane.
use Rattle.std.specs.Prelude.{ℕ}

-- a lane has room for so many packets
abbrev pub lane_room : ℕ
lane_room = 16
