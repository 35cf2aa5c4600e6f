use Rattle.std.proofs.Common.{arith}
use Rattle.bank.specs.Ports.{port_at}
use Rattle.fabric.proofs.Picks.{port_round, ready_stop, ready_go}
use Rattle.fabric.proofs.picking.next_ready.Goals as goal

pub returns-then-can_send : goal.returns-then-can_send
returns-then-can_send g c =
    let bank = c.args.bank.now in
    ready_stop (port_at (g.B.Bank.ports bank) c.args.port).slots c.args.at (g.L.Lanes.queues c.args.lanes.now) c.loop-passed.passed c.slot_on-slot.result
    (port_round (g.B.Bank.ports bank) (g.met.B.Bank.fits bank) c.args.port c.args.at.slot c.loop-passed.passed) (omega arith) c.slot_on-slot.ensures c.if-can_send.ensures c.loop-passed.invariant

pub loop-passed-preserved : goal.loop-passed-preserved
loop-passed-preserved g c =
    let bank = c.args.bank.now in
    ready_go (port_at (g.B.Bank.ports bank) c.args.port).slots c.args.at (g.L.Lanes.queues c.args.lanes.now) c.loop-passed.passed c.slot_on-slot.result
    (port_round (g.B.Bank.ports bank) (g.met.B.Bank.fits bank) c.args.port c.args.at.slot c.loop-passed.passed) (omega arith) c.slot_on-slot.ensures c.if-can_send.ensures c.loop-passed.invariant
