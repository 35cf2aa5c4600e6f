use Rattle.std.proofs.Common.{None, Some, Err, ap, ◌∙◌}
use Rattle.fabric.proofs.Starts.{start_found}
use Rattle.fabric.proofs.starting.ask_all_open.Goals as goal

pub returns-in-Some : goal.returns-in-Some
returns-in-Some g c = ap Err c.port_shut.ensures ∙ start_found (g.B.Bank.ports c.args.bank.now) (Some c.in-Some.port) c.in-Some.ensures

pub returns-in-None : goal.returns-in-None
returns-in-None g c = start_found (g.B.Bank.ports c.args.bank.now) None c.in-None.ensures
