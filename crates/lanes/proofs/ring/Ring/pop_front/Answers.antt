use Rattle.std.proofs.Common.{ap, ◌∙◌, rules}
use Rattle.lanes.specs.Queues.{rest}
use Rattle.lanes.proofs.Turns.{dropped}
use Rattle.lanes.proofs.ring.Ring.pop_front.Goals as goal

pub returns-clause-after : goal.returns-clause-after
returns-clause-after g c =
    let r = c.self.inside in
    dropped g.row.N r.first r.len r.rows (search rules) c.self.invariant.0 c.self.invariant.1 ∙ ap rest c.self.view_is
