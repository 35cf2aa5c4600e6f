-- What ring lanes mean.
use Rattle.std.specs.Prelude.{ℕ, List}
use Rattle.lanes.specs.declared.ring_lanes.RingLanes.{RingLanes}

-- the packets of each lane
abbrev pub ring_queues : RingLanes → List (List ℕ)
ring_queues l = l.lanes
