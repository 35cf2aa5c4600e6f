use Rattle.std.proofs.Common.{◌≡◌, ◌+◌, ◌*◌, ◌<◌, List, length, ap, ◌∙◌, sym, subst, arith, length-set, slice_set}
use Rattle.table.specs.declared.slot.Slot.{Slot}
use Rattle.bank.specs.Ports.{PortFits}
use Rattle.bank.specs.Images.{slots_of}
use Rattle.bank.specs.ImagePorts.{port_of}
use Rattle.bank.specs.ImagesLemmas.{slots_put}
use Rattle.bank.proofs.Fitting.{fits_slot}
use Rattle.bank.proofs.image_banks.KeptImageKeptPort.set_slot.Goals as goal

pub invariant_of-self : goal.invariant_of-self
invariant_of-self c =
    let q = c.args.self.now in
    let put = c.put_slot.ensures in
    let room : 2 * c.args.slot + 1 < length q.port.image = omega (arith, q.full, c.requires.low) in
    let means : slots_of c.put_slot.new.image ≡ slice_set (slots_of q.port.image) c.args.slot c.args.what = ap slots_of put ∙ slots_put q.port.image c.args.slot c.args.what room in
    record {
      full = ap length put ∙ simp length-set q.full;
      fits = subst (λ (xs : List Slot). PortFits (record { «open» = q.port.«open»; slots = xs })) (sym means) (fits_slot (port_of q.port) c.args.slot c.args.what q.fits c.requires.lane (omega arith));
    }

pub returns : goal.returns
returns c =
    let q = c.args.self.now in
    let room : 2 * c.args.slot + 1 < length q.port.image = omega (arith, q.full, c.requires.low) in
    ap (λ (xs : List Slot). record { «open» = q.port.«open»; slots = xs }) (ap slots_of c.put_slot.ensures ∙ slots_put q.port.image c.args.slot c.args.what room)
