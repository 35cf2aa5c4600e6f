use Rattle.std.proofs.Common.{ap, ◌∙◌, arith, rules}
use Rattle.lanes.specs.Queues.{first_of}
use Rattle.lanes.proofs.Turns.{front_item}
use Rattle.lanes.proofs.ring.Ring.front.Goals as goal

pub returns : goal.returns
returns g c =
    let r = c.self.inside in
    front_item g.row.N r.first r.len r.rows _ (search rules) c.self.invariant.0 (omega arith) ∙ ap first_of c.self.view_is
