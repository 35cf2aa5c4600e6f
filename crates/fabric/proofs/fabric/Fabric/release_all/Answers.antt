use Rattle.std.proofs.Common.{◌<◌, length, set, arith}
use Rattle.fabric.specs.States.{meaning, state_of}
use Rattle.fabric.proofs.Books.{released_in_place, books_long}
use Rattle.fabric.proofs.Releases.{sofar_more}
use Rattle.fabric.proofs.fabric.Fabric.release_all.Goals as goal

pub loop-port-preserved : goal.loop-port-preserved
loop-port-preserved g c =
    let was = c.loop-port.self in
    let p = c.loop-port.port in
    let before = g.B.Bank.ports c.loop-port.bank in
    let after = g.B.Bank.ports c.release-slots.new.bank in
    let new = c.release-slots.new.self in
    let within : p < length was.ports = omega (arith, c.loop-port-test.true) in (
      sofar_more c.args.number (meaning c.args.self.now) (g.B.Bank.ports c.args.bank.now) p c.loop-port.slots (meaning was) before c.loop-port.invariant.0
          (omega (arith, c.loop-port-test.true, books_long c.args.self.now.ports)) c.release-slots.result (state_of was.started (set was.ports p new)) after
          (released_in_place was.ports p _ within c.args.number was.started new c.release-slots.result before after c.release-slots.ensures.held c.release-slots.ensures.written c.release-slots.ensures.free),
      omega (arith, c.loop-port.invariant.1, c.release-slots.ensures.most),
    )
