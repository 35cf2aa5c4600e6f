use Rattle.std.proofs.Common.{◌≡◌, [], slice_index_or, sym, ◌∙◌, arith, rules}
use Rattle.std.proofs.lemmas.List.{same_lists, get_or-replicate}
use Rattle.lanes.specs.Queues.{no_packets}
use Rattle.lanes.proofs.ring_lanes.RingLanes.new.Goals as goal

pub returns : goal.returns
returns c =
    let made = c.from_fn.ensures.items in
    same_lists c.from_fn.result no_packets made.long (λ i d h.
    let called = made.at i d (omega arith) in
    let empty : slice_index_or c.from_fn.result i d ≡ [] = search rules in
    empty ∙ sym (get_or-replicate 15 i [] d (omega arith)))
