use Rattle.std.proofs.Common.{◌≡◌, ◌-◌, ◌≤◌, map, length}
use Rattle.bank.specs.Records.{record_ports}
use Rattle.fabric.specs.States.{meaning}
use Rattle.lanes.specs.RingQueues.{ring_queues}
use Rattle.runner.specs.Commands.{orders_of}
use Rattle.runner.specs.Orders.{orders_left}
use Rattle.runner.specs.Scripts.{answers_to}
use Rattle.runner.proofs.Running.{Running}
use Rattle.runner.proofs.exported.run.Given as goal

-- what is written so far and what the orders to come answer from here are the whole
abbrev pub invariant-loop-command : goal.invariant-loop-command
invariant-loop-command l = record {
  same : l.answers.out.ghost_name ≡ l.initial.answers.out.ghost_name;
  long : length l.answers.out.now ≡ length l.initial.answers.out.now;
  within : l.answers.at ≤ length l.answers.out.now;
  running : Running l.initial.answers.out.now l.answers.out.now l.answers.at
      (answers_to (length l.answers.out.now - l.answers.at) (meaning l.fabric) (record_ports l.bank) (map ring_queues l.lanes) (orders_left l.command-iterator))
      (answers_to (length l.initial.answers.out.now) (meaning l.initial.fabric) (record_ports l.initial.bank) (map ring_queues l.initial.lanes) (orders_of l.script));
}
