use Rattle.std.proofs.Common.{◌≡◌, ◌<◌, Ok, slice_index, map, ap, sym, refl, ◌∙◌, rules}
use Rattle.std.specs.List.{range_with_len}
use Rattle.std.specs.Option.{option_map}
use Rattle.table.specs.Slots.{lane_count}
use Rattle.lanes.specs.Queues.{first_of}
use Rattle.lanes.specs.Captures.{length_of, waiting, Finds}
use Rattle.lanes.proofs.Answering.{first_answer_lem}
use Rattle.lanes.specs.Records.{queue_waiting}
use Rattle.lanes.proofs.Finding.{first_found, found_for}
use Rattle.lanes.proofs.capture_lanes_calls.CaptureLanesLanes.first.Goals as goal

pub returns : goal.returns
returns c =
    let bs = c.args.self.now.bytes.now in
    let next = c.args.self.now.next in
    let lane = c.args.lane in
    let first = c.find-first.result in
    let low : lane < lane_count = search rules in
    let at : c.in_ok-place.place ≡ lane = search rules in
    let finds : Finds bs (slice_index next lane) lane first = found_for bs next c.in_ok-place.place lane first first at refl c.find-first.ensures in
    let e : c.map.result ≡ option_map (length_of bs) first = search rules in
    ap Ok e
    ∙ first_answer_lem (map (waiting bs next) (range_with_len 0 lane_count)) lane low (option_map (length_of bs) first)
    (first_found bs lane (slice_index next lane) first finds ∙ sym (ap first_of (queue_waiting bs next lane low)))
