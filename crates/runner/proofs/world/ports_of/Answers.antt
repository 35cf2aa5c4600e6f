use Rattle.std.proofs.Common.{◌≡◌, ◌∙◌, ap, min, length, take, arith}
use Rattle.std.proofs.lemmas.List.{take_all, take_min}
use Rattle.runner.specs.Worlds.{most_hops}
use Rattle.runner.proofs.world.ports_of.Goals as goal

pub returns : goal.returns
returns c =
    let hops = c.args.hops.now in
    let most : c.min-most.result ≡ min most_hops (length hops) = omega (arith, c.min-most.ensures) in
    c.loop-port.invariant ∙ take_all c.loop-port.port-index (take c.min-most.result hops) c.loop-port-test.false ∙ ap (λ k. take k hops) most ∙ take_min most_hops hops
