use Rattle.fabric.proofs.Starts.{all_open}
use Rattle.fabric.proofs.fabric.Fabric.start.Goals as goal

pub empty_all-requires : goal.empty_all-requires
empty_all-requires g c = all_open (g.B.Bank.ports c.args.bank.now) c.in_ok-ask_all_open.field-0 c.in_ok-ask_all_open.ensures
