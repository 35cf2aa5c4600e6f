use Rattle.std.proofs.Common.{[], ◌∷◌, ◌++◌, length, ap, ◌∙◌, arith, rules}
use Rattle.lanes.proofs.Turns.{pushed, length_items}
use Rattle.lanes.proofs.ring.Ring.push.Goals as goal

pub returns : goal.returns
returns g c =
    let r = c.self.inside in
    let count = length_items g.row.N r.first r.rows (search rules) c.self.invariant.0 r.len c.self.invariant.1 in
    let same = ap length c.self.view_is in
    pushed g.row.N r.first r.rows (search rules) c.self.invariant.0 r.len c.args.item (omega arith)
    ∙ ap (λ l. l ++ (c.args.item ∷ [])) c.self.view_is
