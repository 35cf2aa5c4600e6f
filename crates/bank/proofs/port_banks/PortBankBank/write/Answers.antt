use Rattle.std.proofs.Common.{◌≡◌, ◌<◌, true, get_or, rules}
use Rattle.table.specs.Slots.{slots, lane_count}
use Rattle.bank.proofs.Kept.{slot_kept}
use Rattle.bank.proofs.port_banks.PortBankBank.write.Goals as goal

pub returns-clause-after : goal.returns-clause-after
returns-clause-after g c =
    let b = c.args.self.now in
    let within : c.args.port < b.count = search rules in
    let low : c.args.slot < slots = search rules in
    let lane : c.args.what.lane < lane_count = search rules in
    let opened : (g.P.KeptPort.port (get_or b.ports c.args.port c.index-self-port.result)).«open» ≡ true = search rules in
    slot_kept g.P.KeptPort.port b c.args.port within c.index-self-port.result _ c.args.slot c.args.what low lane opened c.set_slot.ensures
