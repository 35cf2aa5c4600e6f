use Rattle.std.proofs.Common.{rules, ◌∙◌}
use Rattle.table.specs.declared.refusal.Reason.TheVariants.{PortShut}
use Rattle.fabric.specs.Declines.{by_bank}
use Rattle.fabric.specs.States.{ranks_of}
use Rattle.fabric.specs.Releasing.{free_or_open}
use Rattle.fabric.proofs.Scans.{each_map}
use Rattle.fabric.proofs.fabric.Fabric.ask_holders.Goals as goal

pub returns : goal.returns
returns g c =
    let test = free_or_open c.args.number (g.B.Bank.ports c.args.bank.now) in
    c.ask_each.ensures (λ port state. test port (ranks_of state)) (by_bank PortShut) (λ port state yes? there r. search rules) (λ port d r. search rules)
    ∙ each_map test (by_bank PortShut) ranks_of 0 c.args.self.now.ports
