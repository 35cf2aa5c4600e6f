use Rattle.std.proofs.Common.{◌<◌, length, set, ap, ◌∙◌, arith}
use Rattle.bank.specs.Ports.{port_at}
use Rattle.fabric.specs.Starting.{emptied_port}
use Rattle.fabric.proofs.Emptying.{port_more}
use Rattle.fabric.proofs.starting.empty_all.Goals as goal

pub loop-port-preserved : goal.loop-port-preserved
loop-port-preserved g c =
    let ps = g.B.Bank.ports c.args.bank.now in
    let p = c.loop-port.port in
    let below : p < length ps = omega (arith, c.count-port-end.ensures) in
    c.empty_port.ensures ∙ ap (λ qs. set qs p (emptied_port (port_at qs p))) c.loop-port.invariant ∙ port_more ps p below
