use Rattle.std.proofs.Common.{◌≡◌, ℕ, ◌+◌, ◌<◌, List, Some, None, Err, slice_index, map, ap, sym, ◌∙◌, rules}
use Rattle.std.specs.List.{range_with_len}
use Rattle.table.specs.declared.refusal.Layer.TheVariants.{Lanes}
use Rattle.table.specs.declared.refusal.Reason.TheVariants.{NoPacket}
use Rattle.table.specs.Refusals.{refusal}
use Rattle.table.specs.Slots.{lane_count}
use Rattle.lanes.specs.Queues.{first_of, rest}
use Rattle.lanes.specs.Captures.{waiting, packets_from, Finds}
use Rattle.lanes.proofs.Answering.{take_answer_lem, take_after, none_answer, none_after}
use Rattle.lanes.specs.Records.{queue_waiting}
use Rattle.lanes.proofs.Finding.{found_for, come_to}
use Rattle.lanes.proofs.capture_lanes_calls.CaptureLanesLanes.take.Goals as goal

pub returns-in_err-k : goal.returns-in_err-k
returns-in_err-k c =
    let bs = c.args.self.now.bytes.now in
    let next = c.args.self.now.next in
    let lane = c.args.lane in
    let qs : List (List ℕ) = map (waiting bs next) (range_with_len 0 lane_count) in
    let low : lane < lane_count = search rules in
    let at : c.in_ok-place.place ≡ lane = search rules in
    let none : c.find-first.result ≡ None = search rules in
    let err : c.from_residual-in_err-k.result ≡ Err (refusal Lanes NoPacket 0) = search rules in
    let finds : Finds bs (slice_index next lane) lane None = found_for bs next c.in_ok-place.place lane c.find-first.result None at none c.find-first.ensures in
    let is = sym (ap first_of (queue_waiting bs next lane low ∙ finds)) in
    record { answer = err ∙ none_answer qs lane low is; after = none_after qs lane low is }

pub returns : goal.returns
returns c =
    let bs = c.args.self.now.bytes.now in
    let next = c.args.self.now.next in
    let lane = c.args.lane in
    let qs : List (List ℕ) = map (waiting bs next) (range_with_len 0 lane_count) in
    let k = c.in_ok-k.k in
    let low : lane < lane_count = search rules in
    let at : c.in_ok-place.place ≡ lane = search rules in
    let some : c.find-first.result ≡ Some k = search rules in
    let finds : Finds bs (slice_index next lane) lane (Some k) = found_for bs next c.in_ok-place.place lane c.find-first.result (Some k) at some c.find-first.ensures in
    let is = queue_waiting bs next lane low ∙ finds.1 in
    record {
      answer = take_answer_lem qs lane low c.length_of.result (ap Some c.length_of.ensures ∙ sym (ap first_of is));
      after = rw at (come_to bs next lane (k + 1) c.args.self.now.long low ∙ take_after qs lane low (packets_from bs (k + 1) lane) (sym (ap rest is)));
    }
