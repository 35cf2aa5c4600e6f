-- The queues that captured records make are queues of packets.
use Rattle.std.proofs.Common.{◌≡◌, ℕ, ◌-◌, ◌<◌, true, List, [], map, filter, get_or, sym, subst, ⊎_elim, arith}
use Rattle.std.specs.List.{range_with_len, AllByRecursion}
use Rattle.std.proofs.lemmas.List.FromFn.{length-map-range_with_len, get_or-map-range_with_len}
use Rattle.std.proofs.ByRecursion.{kept_by_passes, All-weaker, All-map}
use Rattle.std.proofs.lemmas.List.{get_or_past}
use Rattle.std.proofs.lemmas.Bool.{and_parts, cases_lt}
use Rattle.table.specs.Slots.{lane_count}
use Rattle.lanes.specs.Queues.{Packet, queue, LanesFit}
use Rattle.lanes.specs.Packets.{packet}
use Rattle.lanes.specs.Captures.{record_count, length_of, is_for, packets_from, waiting}

captured_packets : (bs : List ℕ) (lane k : ℕ) → AllByRecursion Packet (packets_from bs k lane)
captured_packets bs lane k =
    let ks = range_with_len k (record_count bs - k) in
    All-map Packet (length_of bs) (filter (is_for bs lane) ks)
    (All-weaker (λ j. is_for bs lane j ≡ true) (λ j. Packet (length_of bs j)) (λ j e. packet (length_of bs j) (and_parts _ _ e).1) (filter (is_for bs lane) ks) (kept_by_passes (is_for bs lane) ks))

module _ (bs next : List ℕ) where
  pub queue_waiting : (lane : ℕ) → lane < lane_count → queue (map (waiting bs next) (range_with_len 0 lane_count)) lane ≡ waiting bs next lane
  queue_waiting lane h = get_or-map-range_with_len (waiting bs next) 0 lane_count lane lane [] h (omega arith)

  pub captures_fit : LanesFit (map (waiting bs next) (range_with_len 0 lane_count))
  captures_fit = record {
    count = length-map-range_with_len (waiting bs next) 0 lane_count;
    packets = λ lane.
        ⊎_elim
        (λ h. subst (AllByRecursion Packet) (sym (queue_waiting lane h)) (captured_packets bs lane (get_or next lane 0)))
        (λ past. subst (AllByRecursion Packet) (sym (get_or_past (map (waiting bs next) (range_with_len 0 lane_count)) lane [] (omega (arith, length-map-range_with_len (waiting bs next) 0 lane_count)))) tt)
        (cases_lt lane lane_count);
  }
