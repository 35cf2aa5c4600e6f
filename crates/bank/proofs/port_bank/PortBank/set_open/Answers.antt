use Rattle.std.proofs.Common.{◌<◌, rules}
use Rattle.bank.proofs.Kept.{state_kept}
use Rattle.bank.proofs.port_bank.PortBank.set_open.Goals as goal

pub returns-clause-after : goal.returns-clause-after
returns-clause-after g c =
    let b = c.args.self.now in
    let within : c.args.port < b.count = search rules in
    state_kept g.P.KeptPort.port b c.args.port within c.index-self-port.result _ c.args.open c.set_open.ensures
