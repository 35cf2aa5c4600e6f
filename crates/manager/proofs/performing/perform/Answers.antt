use Rattle.fabric.specs.States.{meaning}
use Rattle.manager.specs.Calls.{asked}
use Rattle.manager.proofs.Theorem.{carried, begins}
use Rattle.manager.proofs.performing.perform.Goals as goal

pub returns : goal.returns
returns g c =
    let ports = g.B.Bank.ports in
    let queues = g.L.Lanes.queues in
    let done = c.dispatch in
    let s = meaning c.args.fabric.now in
    let s' = meaning done.new.fabric in
    let ps = ports c.args.bank.now in
    let ps' = ports done.new.bank in
    let qs = queues c.args.lanes.now in
    let qs' = queues done.new.lanes in
    let call = asked c.args.call.now in
    let fits = g.met.L.Lanes.fits c.args.lanes.now in
    record {
      meets = done.ensures.meets;
      carries = carried s s' ps ps' qs qs' call done.result fits done.ensures.meets;
      begins = begins s s' ps ps' qs qs' call done.result fits done.ensures.meets;
    }
