-- What capture lanes mean.
use Rattle.std.specs.Prelude.{ℕ, List, map}
use Rattle.std.specs.List.{range_with_len}
use Rattle.table.specs.Slots.{lane_count}
use Rattle.lanes.specs.declared.capture_lanes.CaptureLanes.{CaptureLanes}
use Rattle.lanes.specs.Captures.{waiting}

-- the packets of each lane from the record on that it has come to
abbrev pub capture_queues : CaptureLanes → List (List ℕ)
capture_queues l = map (waiting l.bytes.now l.next) (range_with_len 0 lane_count)
