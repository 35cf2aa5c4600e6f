use Rattle.std.proofs.Common.{◌≡◌, length, ◌∙◌, arith}
use Rattle.table.specs.Slots.{slots}
use Rattle.bank.specs.Ports.{port_at, write_after}
use Rattle.fabric.proofs.Emptying.{empty_more}
use Rattle.fabric.proofs.starting.empty_port.Goals as goal

pub loop-slot-preserved : goal.loop-slot-preserved
loop-slot-preserved g c =
    let ps = g.B.Bank.ports c.args.bank.now in
    let p = c.args.port in
    let long : length (port_at ps p).slots ≡ slots = (g.met.B.Bank.fits c.args.bank.now).long p c.requires.within in
    c.write.ensures.after ∙ (λ k. write_after (c.loop-slot.invariant k) p c.loop-slot.slot (c.empty.ensures k)) ∙ empty_more ps p c.requires.within c.requires.«open» c.loop-slot.slot (omega arith) long
