use Rattle.std.proofs.Common.{arith}
use Rattle.fabric.specs.States.{meaning}
use Rattle.fabric.proofs.Paths.{admitted_path}
use Rattle.fabric.proofs.fabric.Fabric.reserve.Goals as goal

pub fill_path-slots-requires : goal.fill_path-slots-requires
fill_path-slots-requires g c =
    let ps = g.B.Bank.ports c.args.bank.now in
    let p = admitted_path (meaning c.args.self.now) ps c.args.number c.args.level c.args.weight c.args.path.now c.in_ok-service.field-0 c.in_ok-service.ensures in
    record { hops = p.0; below = λ k h. omega (arith, p.1 k h, (g.met.B.Bank.fits c.args.bank.now).most) }
