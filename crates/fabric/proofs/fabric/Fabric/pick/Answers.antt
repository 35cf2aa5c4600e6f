use Rattle.std.proofs.Common.{rules, arith}
use Rattle.fabric.specs.States.{meaning}
use Rattle.fabric.proofs.Pickings.{picked, port_there}
use Rattle.fabric.proofs.fabric.Fabric.pick.Goals as goal

pub returns : goal.returns
returns g c =
    let was = c.args.self.now in
    let ps = g.B.Bank.ports c.args.bank.now in
    let there = port_there (meaning was) ps c.args.port c.in_ok-ask_pick.ensures in
    record {
      meets = picked was.started was.ports c.args.port _ ps (g.L.Lanes.queues c.args.lanes.now) _ _ _ (omega (arith, there, (g.met.B.Bank.fits c.args.bank.now).most)) c.in_ok-ask_pick.ensures (search rules);
    }
