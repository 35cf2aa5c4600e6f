use Rattle.std.proofs.Common.{sym, ap, ◌∙◌}
use Rattle.fabric.specs.States.{meaning}
use Rattle.fabric.specs.Starting.{start_call}
use Rattle.fabric.specs.Reserving.{reserve_call}
use Rattle.fabric.specs.Releasing.{release_call}
use Rattle.fabric.specs.Shutting.{shut_call, reopen_call}
use Rattle.fabric.specs.Picking.{pick_call}
use Rattle.manager.specs.declared.call.Answer.TheVariants.{Started, Released, Shut, Reopened}
use Rattle.manager.specs.Calls.{asked, reserved_now, performed}
use Rattle.manager.proofs.Dispatched.{bank_took, bank_declined, lanes_took, lanes_declined}
use Rattle.manager.proofs.performing.dispatch.Goals as goal

pub returns-in_ok-start-in-Start : goal.returns-in_ok-start-in-Start
unfolding performed
returns-in_ok-start-in-Start g c =
    let s = meaning c.args.fabric.now in
    let ps = g.B.Bank.ports c.args.bank.now in
    let qs = g.L.Lanes.queues c.args.lanes.now in
    record { meets = bank_took (λ _. Started) (meaning c.start.new.self) (g.B.Bank.ports c.start.new.bank) qs (start_call s ps) tt c.in_ok-start-in-Start.ensures.meets ∙ ap (λ call. performed s ps qs (asked call)) (sym c.in-Start.is) }

pub returns-in_err-start-in-Start : goal.returns-in_err-start-in-Start
unfolding performed
returns-in_err-start-in-Start g c =
    let s = meaning c.args.fabric.now in
    let ps = g.B.Bank.ports c.args.bank.now in
    let qs = g.L.Lanes.queues c.args.lanes.now in
    record { meets = bank_declined (λ _. Started) (meaning c.start.new.self) (g.B.Bank.ports c.start.new.bank) qs (start_call s ps) c.in_err-start-in-Start.field-0.0 c.from_residual.result c.from_residual.ensures.1 c.in_err-start-in-Start.ensures.meets ∙ ap (λ call. performed s ps qs (asked call)) (sym c.in-Start.is) }

pub returns-in_ok-spacing-in-Reserve : goal.returns-in_ok-spacing-in-Reserve
unfolding performed
returns-in_ok-spacing-in-Reserve g c =
    let s = meaning c.args.fabric.now in
    let ps = g.B.Bank.ports c.args.bank.now in
    let qs = g.L.Lanes.queues c.args.lanes.now in
    record { meets = bank_took reserved_now (meaning c.reserve.new.self) (g.B.Bank.ports c.reserve.new.bank) qs (reserve_call s ps c.in-Reserve.number c.in-Reserve.level c.in-Reserve.weight c.in-Reserve.path.now) (c.in_ok-spacing-in-Reserve.spacing, c.in_ok-spacing-in-Reserve.grant, c.in_ok-spacing-in-Reserve.slots) c.in_ok-spacing-in-Reserve.ensures.meets ∙ ap (λ call. performed s ps qs (asked call)) (sym c.in-Reserve.is) }

pub returns-in_err-spacing-in-Reserve : goal.returns-in_err-spacing-in-Reserve
unfolding performed
returns-in_err-spacing-in-Reserve g c =
    let s = meaning c.args.fabric.now in
    let ps = g.B.Bank.ports c.args.bank.now in
    let qs = g.L.Lanes.queues c.args.lanes.now in
    record { meets = bank_declined reserved_now (meaning c.reserve.new.self) (g.B.Bank.ports c.reserve.new.bank) qs (reserve_call s ps c.in-Reserve.number c.in-Reserve.level c.in-Reserve.weight c.in-Reserve.path.now) c.in_err-spacing-in-Reserve.field-0.0 c.from_residual-in_err-spacing-in-Reserve.result c.from_residual-in_err-spacing-in-Reserve.ensures.1 c.in_err-spacing-in-Reserve.ensures.meets ∙ ap (λ call. performed s ps qs (asked call)) (sym c.in-Reserve.is) }

pub returns-in_ok-slots-in-Release : goal.returns-in_ok-slots-in-Release
unfolding performed
returns-in_ok-slots-in-Release g c =
    let s = meaning c.args.fabric.now in
    let ps = g.B.Bank.ports c.args.bank.now in
    let qs = g.L.Lanes.queues c.args.lanes.now in
    record { meets = bank_took Released (meaning c.release.new.self) (g.B.Bank.ports c.release.new.bank) qs (release_call s ps c.in-Release.number) c.in_ok-slots-in-Release.slots c.in_ok-slots-in-Release.ensures.meets ∙ ap (λ call. performed s ps qs (asked call)) (sym c.in-Release.is) }

pub returns-in_err-slots-in-Release : goal.returns-in_err-slots-in-Release
unfolding performed
returns-in_err-slots-in-Release g c =
    let s = meaning c.args.fabric.now in
    let ps = g.B.Bank.ports c.args.bank.now in
    let qs = g.L.Lanes.queues c.args.lanes.now in
    record { meets = bank_declined Released (meaning c.release.new.self) (g.B.Bank.ports c.release.new.bank) qs (release_call s ps c.in-Release.number) c.in_err-slots-in-Release.field-0.0 c.from_residual-in_err-slots-in-Release.result c.from_residual-in_err-slots-in-Release.ensures.1 c.in_err-slots-in-Release.ensures.meets ∙ ap (λ call. performed s ps qs (asked call)) (sym c.in-Release.is) }

pub returns-in_ok-shut-in-Shut : goal.returns-in_ok-shut-in-Shut
unfolding performed
returns-in_ok-shut-in-Shut g c =
    let s = meaning c.args.fabric.now in
    let ps = g.B.Bank.ports c.args.bank.now in
    let qs = g.L.Lanes.queues c.args.lanes.now in
    record { meets = bank_took (λ _. Shut) (meaning c.shut.new.self) (g.B.Bank.ports c.shut.new.bank) qs (shut_call s ps c.in-Shut.port) tt c.in_ok-shut-in-Shut.ensures.meets ∙ ap (λ call. performed s ps qs (asked call)) (sym c.in-Shut.is) }

pub returns-in_err-shut-in-Shut : goal.returns-in_err-shut-in-Shut
unfolding performed
returns-in_err-shut-in-Shut g c =
    let s = meaning c.args.fabric.now in
    let ps = g.B.Bank.ports c.args.bank.now in
    let qs = g.L.Lanes.queues c.args.lanes.now in
    record { meets = bank_declined (λ _. Shut) (meaning c.shut.new.self) (g.B.Bank.ports c.shut.new.bank) qs (shut_call s ps c.in-Shut.port) c.in_err-shut-in-Shut.field-0.0 c.from_residual-in_err-shut-in-Shut.result c.from_residual-in_err-shut-in-Shut.ensures.1 c.in_err-shut-in-Shut.ensures.meets ∙ ap (λ call. performed s ps qs (asked call)) (sym c.in-Shut.is) }

pub returns-in_ok-reopen-in-Reopen : goal.returns-in_ok-reopen-in-Reopen
unfolding performed
returns-in_ok-reopen-in-Reopen g c =
    let s = meaning c.args.fabric.now in
    let ps = g.B.Bank.ports c.args.bank.now in
    let qs = g.L.Lanes.queues c.args.lanes.now in
    record { meets = bank_took (λ _. Reopened) (meaning c.reopen.new.self) (g.B.Bank.ports c.reopen.new.bank) qs (reopen_call s ps c.in-Reopen.port) tt c.in_ok-reopen-in-Reopen.ensures.meets ∙ ap (λ call. performed s ps qs (asked call)) (sym c.in-Reopen.is) }

pub returns-in_err-reopen-in-Reopen : goal.returns-in_err-reopen-in-Reopen
unfolding performed
returns-in_err-reopen-in-Reopen g c =
    let s = meaning c.args.fabric.now in
    let ps = g.B.Bank.ports c.args.bank.now in
    let qs = g.L.Lanes.queues c.args.lanes.now in
    record { meets = bank_declined (λ _. Reopened) (meaning c.reopen.new.self) (g.B.Bank.ports c.reopen.new.bank) qs (reopen_call s ps c.in-Reopen.port) c.in_err-reopen-in-Reopen.field-0.0 c.from_residual-in_err-reopen-in-Reopen.result c.from_residual-in_err-reopen-in-Reopen.ensures.1 c.in_err-reopen-in-Reopen.ensures.meets ∙ ap (λ call. performed s ps qs (asked call)) (sym c.in-Reopen.is) }

pub returns-in_ok-picked-in-Pick : goal.returns-in_ok-picked-in-Pick
unfolding performed
returns-in_ok-picked-in-Pick g c =
    let s = meaning c.args.fabric.now in
    let ps = g.B.Bank.ports c.args.bank.now in
    let qs = g.L.Lanes.queues c.args.lanes.now in
    record { meets = lanes_took (meaning c.pick.new.self) ps (g.L.Lanes.queues c.pick.new.lanes) (pick_call s ps qs c.in-Pick.port) c.in_ok-picked-in-Pick.picked c.in_ok-picked-in-Pick.ensures.meets ∙ ap (λ call. performed s ps qs (asked call)) (sym c.in-Pick.is) }

pub returns-in_err-picked-in-Pick : goal.returns-in_err-picked-in-Pick
unfolding performed
returns-in_err-picked-in-Pick g c =
    let s = meaning c.args.fabric.now in
    let ps = g.B.Bank.ports c.args.bank.now in
    let qs = g.L.Lanes.queues c.args.lanes.now in
    record { meets = lanes_declined (meaning c.pick.new.self) ps (g.L.Lanes.queues c.pick.new.lanes) (pick_call s ps qs c.in-Pick.port) c.in_err-picked-in-Pick.field-0.0 c.from_residual-in_err-picked-in-Pick.result c.from_residual-in_err-picked-in-Pick.ensures.1 c.in_err-picked-in-Pick.ensures.meets ∙ ap (λ call. performed s ps qs (asked call)) (sym c.in-Pick.is) }
