use Rattle.std.proofs.Common.{◌<◌, length, refl, rules}
use Rattle.runner.specs.Commands.{order_of}
use Rattle.runner.proofs.Shorter.{left_shorter, orders_more, orders_none}
use Rattle.runner.proofs.script.CommandsIterator.next.Goals as goal

pub returns-in_err-step-clause-steps : goal.returns-in_err-step-clause-steps
returns-in_err-step-clause-steps c = rw c.from_residual.ensures (orders_none c.args.self.now.rest.now c.in_err-step.ensures, refl)

pub returns-clause-steps : goal.returns-clause-steps
returns-clause-steps c = orders_more c.args.self.now.rest.now c.in_ok-step.step.rest.now (order_of c.in_ok-step.step.command) c.in_ok-step.ensures

pub returns-clause-goes : goal.returns-clause-goes
returns-clause-goes c =
    let step = c.in_ok-step.step in
    let shorter : length step.rest.now < length c.args.self.now.rest.now = left_shorter c.args.self.now.rest.now step.rest.now (order_of step.command) c.in_ok-step.ensures in
    search rules
