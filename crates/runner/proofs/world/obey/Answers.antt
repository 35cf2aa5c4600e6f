use Rattle.std.proofs.Common.{rules, map, sym, ap, ◌∙◌, arith}
use Rattle.bank.specs.Records.{record_ports}
use Rattle.lanes.specs.RingQueues.{ring_queues}
use Rattle.fabric.specs.States.{meaning}
use Rattle.runner.specs.Commands.{ask_of, order_of}
use Rattle.runner.specs.Worlds.{obeyed}
use Rattle.runner.proofs.Obeying.{call_obeyed, arrive_obeyed}
use Rattle.runner.proofs.world.obey.Goals as goal

pub returns-in-Call : goal.returns-in-Call
returns-in-Call c =
    call_obeyed c.args.lanes.now c.index-lanes-port.result c.serve.new.lanes c.port_for-port.result (ask_of c.in-Call.request) c.serve.result c.map.result
    (meaning c.args.fabric.now) (meaning c.serve.new.fabric) (record_ports c.args.bank.now) (record_ports c.serve.new.bank)
    c.port_for-port.ensures.value (omega arith) (search rules) c.serve.ensures
    ∙ ap (λ x. obeyed (meaning c.args.fabric.now) (record_ports c.args.bank.now) (map ring_queues c.args.lanes.now) (order_of x)) (sym c.in-Call.is)

pub returns-in-Arrive : goal.returns-in-Arrive
returns-in-Arrive c =
    arrive_obeyed (map ring_queues c.args.lanes.now) (map ring_queues c.arrive.new.lanes) c.in-Arrive.port c.in-Arrive.lane c.in-Arrive.length c.arrive.result
    (meaning c.args.fabric.now) (record_ports c.args.bank.now) c.arrive.ensures.came c.arrive.ensures.after
    ∙ ap (λ x. obeyed (meaning c.args.fabric.now) (record_ports c.args.bank.now) (map ring_queues c.args.lanes.now) (order_of x)) (sym c.in-Arrive.is)
