use Rattle.std.proofs.Common.{arith}
use Rattle.fabric.proofs.Paths.{path_below}
use Rattle.fabric.proofs.fabric.Fabric.admit.Goals as goal

pub ask_room-requires : goal.ask_room-requires
ask_room-requires g c k h =
    omega (arith, path_below c.count.result c.args.path.now c.in_ok-ask_path.field-0 c.in_ok-ask_path.ensures k h, c.count.ensures, (g.met.B.Bank.fits c.args.bank.now).most)
