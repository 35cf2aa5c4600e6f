use Rattle.std.proofs.Common.{◌-◌, ◌∙◌, map, length, arith}
use Rattle.bank.specs.Records.{record_ports}
use Rattle.fabric.specs.States.{meaning}
use Rattle.lanes.specs.RingQueues.{ring_queues}
use Rattle.runner.specs.Bytes.{came_bytes}
use Rattle.runner.specs.Commands.{order_of}
use Rattle.runner.specs.Orders.{orders_left}
use Rattle.runner.proofs.Running.{answers_full, running_end, ends_within, turn_more, turns_over}
use Rattle.runner.proofs.exported.run.Goals as goal

pub loop-command-preserved : goal.loop-command-preserved
loop-command-preserved c =
    let l = c.loop-command in
    let a = l.answers in
    let b = c.put_came.new.out in
    let w = c.put_came.ensures.text in
    record {
      same = c.put_came.ensures.same ∙ l.invariant.same;
      long = c.put_came.ensures.long ∙ l.invariant.long;
      within = ends_within a.out.now b.out.now a.at b.at (came_bytes c.obey-came.result) l.invariant.within w;
      running = turn_more c.args.answers.now.out.now a.out.now b.out.now a.at b.at
          (meaning l.fabric) (meaning c.obey-came.new.fabric) (record_ports l.bank) (record_ports c.obey-came.new.bank) (map ring_queues l.lanes) (map ring_queues c.obey-came.new.lanes)
          (order_of c.in-Some.command) (orders_left l.command-iterator) (orders_left c.next.new.self) c.obey-came.result _ (omega arith) c.put_came.ensures.long
          l.invariant.running c.in-Some.ensures.steps c.obey-came.ensures w;
    }

pub returns-then-answers-lt-LONGEST : goal.returns-then-answers-lt-LONGEST
returns-then-answers-lt-LONGEST c =
    let l = c.loop-command in
    record {
      same = l.invariant.same;
      long = l.invariant.long;
      text = rw c.requires (running_end c.args.answers.now.out.now l.answers.out.now l.answers.at _ _ l.invariant.running
          (answers_full (length l.answers.out.now - l.answers.at) (meaning l.fabric) (record_ports l.bank) (map ring_queues l.lanes) (orders_left l.command-iterator) c.if-answers-lt-LONGEST.true));
    }

pub returns : goal.returns
returns c =
    let l = c.loop-command in
    record {
      same = l.invariant.same;
      long = l.invariant.long;
      text = rw c.requires (turns_over c.args.answers.now.out.now l.answers.out.now l.answers.at (meaning l.fabric) (record_ports l.bank) (map ring_queues l.lanes) (orders_left l.command-iterator) _
          l.invariant.running c.in-None.ensures.steps.0);
    }
