use Rattle.std.proofs.Common.{◌+◌, ◌%◌, ◌<◌, refl, arith}
use Rattle.table.specs.Slots.{slots}
use Rattle.bank.specs.Ports.{port_at}
use Rattle.fabric.specs.Picking.{slot_on, turn, ready}
use Rattle.fabric.proofs.Seeks.{seek_near}
use Rattle.fabric.proofs.Picks.{own_sends, next_sends, none_sends, sent_turn, idle_turn}
use Rattle.fabric.proofs.fabric.Pointer.turn.Goals as goal

pub returns-then-can_send : goal.returns-then-can_send
returns-then-can_send g c =
    let table = (port_at (g.B.Bank.ports c.args.bank.now) c.args.port).slots in
    let at = c.args.self.now in
    let qs = g.L.Lanes.queues c.args.lanes.now in
    let own = c.slot_on-own.result in
    let usable = c.min-usable.result in
    sent_turn qs (g.L.Lanes.queues c.send-length.new.lanes) c.send-length.result (at.slot % slots) 0 usable own c.send-length.new.self (turn table at qs)
    c.send-length.ensures.length c.send-length.ensures.moved c.send-length.ensures.after
    (own_sends table at qs usable (at.slot % slots) own ((g.met.B.Bank.fits c.args.bank.now).long c.args.port c.requires) c.slot_on-own.ensures c.min-usable.ensures refl c.if-can_send.ensures)

pub overflow_add-to : goal.overflow_add-to
overflow_add-to g c =
    let table = (port_at (g.B.Bank.ports c.args.bank.now) c.args.port).slots in
    let at = c.args.self.now in
    let near : c.in-Some.passed < 1 + slots =
    seek_near (ready table at (g.L.Lanes.queues c.args.lanes.now)) (λ d. slot_on table (at.slot + d)) 1 slots c.in-Some.passed c.in-Some.slot c.in-Some.ensures in
    omega arith

pub returns-in-Some : goal.returns-in-Some
returns-in-Some g c =
    let table = (port_at (g.B.Bank.ports c.args.bank.now) c.args.port).slots in
    let at = c.args.self.now in
    let qs = g.L.Lanes.queues c.args.lanes.now in
    let d = c.in-Some.passed in
    let slot = c.in-Some.slot in
    let place = (at.slot % slots + d) % slots in
    sent_turn qs (g.L.Lanes.queues c.send-length-in-Some.new.lanes) c.send-length-in-Some.result place d slot.weight slot c.send-length-in-Some.new.self (turn table at qs)
    c.send-length-in-Some.ensures.length c.send-length-in-Some.ensures.moved c.send-length-in-Some.ensures.after
    (next_sends table at qs c.min-usable.result d place c.slot_on-own.result slot ((g.met.B.Bank.fits c.args.bank.now).long c.args.port c.requires) c.slot_on-own.ensures c.min-usable.ensures
    c.if-can_send.ensures c.in-Some.ensures refl)

pub returns-in-None : goal.returns-in-None
returns-in-None g c =
    let table = (port_at (g.B.Bank.ports c.args.bank.now) c.args.port).slots in
    let at = c.args.self.now in
    let qs = g.L.Lanes.queues c.args.lanes.now in
    let long = (g.met.B.Bank.fits c.args.bank.now).long c.args.port c.requires in
    idle_turn at qs table (turn table at qs) long
    (none_sends table at qs c.min-usable.result c.slot_on-own.result long c.slot_on-own.ensures c.min-usable.ensures c.if-can_send.ensures c.in-None.ensures)
