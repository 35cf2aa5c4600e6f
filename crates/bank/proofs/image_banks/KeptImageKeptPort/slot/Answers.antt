use Rattle.std.proofs.Common.{sym, ◌∙◌, arith}
use Rattle.bank.specs.ImagesLemmas.{slot_of}
use Rattle.bank.proofs.image_banks.KeptImageKeptPort.slot.Goals as goal

pub returns : goal.returns
returns c =
    let q = c.args.self.now in
    c.get_slot.ensures ∙ sym (slot_of q.port.image c.args.slot (omega (arith, q.full, c.requires)))
