use Rattle.fabric.specs.States.{meaning}
use Rattle.fabric.proofs.Paths.{numbered}
use Rattle.fabric.proofs.Releases.{release_accepted}
use Rattle.fabric.proofs.fabric.Fabric.release.Goals as goal

pub returns : goal.returns
returns g c =
    let n = numbered c.args.number c.in_ok-number.number c.in_ok-number.ensures in
    record {
      meets = release_accepted (meaning c.args.self.now) (meaning c.release_all.new.self) (g.B.Bank.ports c.args.bank.now) (g.B.Bank.ports c.release_all.new.bank)
          c.args.number c.in_ok-number.number c.release_all.result n.1 c.in_ok-ask_started.ensures n.0 c.in_ok-ask_live.ensures c.in_ok-ask_holders.ensures c.release_all.ensures;
    }
