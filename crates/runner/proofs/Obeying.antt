-- A command carried out by its parts.
use Rattle.std.proofs.Common.{◌≡◌, ℕ, ◌<◌, Bool, true, false, cond, [], Err, List, map, length, get_or, set, Result, nat_lt, sym, refl, ap, ◌∙◌}
use Rattle.std.proofs.lemmas.List.{map-set, get_or-map}
use Rattle.table.specs.declared.refusal.Reason.TheVariants.{NoSuchPort}
use Rattle.bank.specs.declared.port.Port.{Port}
use Rattle.lanes.specs.declared.ring_lanes.RingLanes.{RingLanes}
use Rattle.lanes.specs.OneLane.{lane_room}
use Rattle.lanes.specs.Queues.{arrive_answer, arrive_after}
use Rattle.lanes.specs.RingQueues.{ring_queues}
use Rattle.fabric.specs.declared.declined.Declined.{Declined}
use Rattle.fabric.specs.Declines.{by_bank}
use Rattle.fabric.specs.States.{State}
use Rattle.manager.specs.declared.call.Answer.{Answer}
use Rattle.manager.specs.Calls.{Ask, leaving, performed}
use Rattle.runner.specs.Bytes.{Came}
use Rattle.runner.specs.Commands.{call, arrive}
use Rattle.runner.specs.Worlds.{Lanes, script_ports, queues_at, came_of, joined_of, port_for, within, served, obeying, obeyed}

-- a call, performed with the lanes of its port
pub call_obeyed : (ls : List RingLanes) (d new : RingLanes) (port : ℕ) (a : Ask) (r : Result Answer Declined) (came : Came) (s t : State) (ps qs : List Port)
    → port ≡ port_for a → port < length ls → came ≡ came_of r
    → leaving r t qs (ring_queues new) ≡ performed s ps (ring_queues (get_or ls port d)) (within a)
    → obeying came t qs (map ring_queues (set ls port new)) ≡ obeyed s ps (map ring_queues ls) (call a)
unfolding obeyed
call_obeyed ls d new port a r came s t ps qs for_a low is e =
    let Q : Lanes = map ring_queues ls in
    let q : ring_queues (get_or ls port d) ≡ queues_at Q port = sym (get_or-map ring_queues ls port d [] low) in
    (λ i. obeying (is i) t qs (map-set ring_queues ls port new i))
    ∙ ap (served port Q) e
    ∙ ap (λ x. served port Q (performed s ps x (within a))) q
    ∙ ap (λ p. served p Q (performed s ps (queues_at Q p) (within a))) for_a

-- a packet that arrives
pub arrive_obeyed : (ls : Lanes) (new : Lanes) (port lane bytes : ℕ) (came : Came) (s : State) (ps : List Port)
    → came ≡ cond (nat_lt port script_ports) (joined_of (arrive_answer lane_room (queues_at ls port) lane bytes)) (Err (by_bank NoSuchPort 0))
    → new ≡ cond (nat_lt port script_ports) (set ls port (arrive_after lane_room (queues_at ls port) lane bytes)) ls
    → obeying came s ps new ≡ obeyed s ps ls (arrive port lane bytes)
unfolding obeyed
arrive_obeyed ls new port lane bytes came s ps a b = (λ i. obeying (a i) s ps (b i)) ∙ either (nat_lt port script_ports)
  where
    either : (t : Bool)
        → obeying (cond t (joined_of (arrive_answer lane_room (queues_at ls port) lane bytes)) (Err (by_bank NoSuchPort 0))) s ps
        (cond t (set ls port (arrive_after lane_room (queues_at ls port) lane bytes)) ls)
        ≡ cond t (obeying (joined_of (arrive_answer lane_room (queues_at ls port) lane bytes)) s ps (set ls port (arrive_after lane_room (queues_at ls port) lane bytes)))
        (obeying (Err (by_bank NoSuchPort 0)) s ps ls)
    either true = refl
    either false = refl
