use Rattle.std.proofs.Common.{◌<◌, length, get_or, set, ◌∙◌, arith}
use Rattle.table.specs.Slots.{bits}
use Rattle.book.specs.Books.{filled}
use Rattle.fabric.specs.States.{meaning, state_of}
use Rattle.fabric.proofs.Along.{along_more}
use Rattle.fabric.proofs.Books.{changed_in_place}
use Rattle.fabric.proofs.fabric.Fabric.fill_path.Goals as goal

pub loop-port-preserved : goal.loop-port-preserved
loop-port-preserved g c =
    let was = c.loop-port.self in
    let before = g.B.Bank.ports c.loop-port.bank in
    let after = g.B.Bank.ports c.fill_in-slots.new.bank in
    let p = get_or c.args.path.now c.loop-port.port-index 0 in
    let within : p < length was.ports = omega (arith, c.requires.below c.loop-port.port-index c.loop-port-test.true) in (
      along_more (λ b. filled bits b c.args.session) c.args.path.now c.loop-port.port-index c.loop-port.slots c.fill_in-slots.result
          (meaning was) (state_of was.started (set was.ports p c.fill_in-slots.new.self)) before after c.loop-port-test.true
          (changed_in_place was.ports p _ within (λ b. filled bits b c.args.session) was.started c.fill_in-slots.new.self c.fill_in-slots.result before after
          c.fill_in-slots.ensures.book c.fill_in-slots.ensures.written)
          ∙ c.loop-port.invariant.0,
      omega (arith, c.fill_in-slots.ensures.written.most),
    )
