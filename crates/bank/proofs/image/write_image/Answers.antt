use Rattle.std.proofs.Common.{◌≡◌, ◌*◌, ◌<◌, ◌≤◌, List, length, rules, ◌++◌, take, drop, ap, ◌∙◌, arith}
use Rattle.table.specs.Slots.{slots}
use Rattle.bank.specs.declared.port.Port.{Port}
use Rattle.bank.specs.Ports.{port_at, BankFits}
use Rattle.bank.specs.Images.{image_bytes, image_of, put_slot}
use Rattle.bank.specs.ImagesLemmas.{image_more}
use Rattle.bank.proofs.Written.{slot_read, image_answer_lem, image_after_lem, image_trip}
use Rattle.bank.proofs.image.write_image.Goals as goal

pub loop-slot-preserved : goal.loop-slot-preserved
loop-slot-preserved g c =
    let ps : List Port = g.B.Bank.ports c.args.bank.now in
    let s = c.loop-slot.slot in
    let within : c.args.port < length ps = search rules in
    let full = (g.met.B.Bank.fits c.args.bank.now).long c.args.port within in
    c.put_slot.ensures
    ∙ (λ i. put_slot (c.loop-slot.invariant i) s (slot_read ps c.args.port within s (omega arith) c.in_ok-what.what c.in_ok-what.ensures i))
    ∙ image_more (port_at ps c.args.port).slots c.args.out.now s (omega (arith, full)) (search rules)

pub returns : goal.returns
returns g c =
    let ps : List Port = g.B.Bank.ports c.args.bank.now in
    let fits : BankFits ps = g.met.B.Bank.fits c.args.bank.now in
    let p = c.args.port in
    let out = c.args.out.now in
    let within : p < length ps = search rules in
    let room : image_bytes ≤ length out = search rules in
    let last : c.loop-slot.slot ≡ slots = omega arith in
    let done = c.loop-slot.invariant ∙ ap (λ n. image_of (take n (port_at ps p).slots) ++ drop (2 * n) out) last in
    record {
      answer = image_answer_lem ps fits p out c.loop-slot.out within room done;
      after = image_after_lem ps fits p out c.loop-slot.out within room done;
      trip = λ _. image_trip ps fits p out c.loop-slot.out within room done;
    }
