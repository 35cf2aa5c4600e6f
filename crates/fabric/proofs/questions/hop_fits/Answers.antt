use Rattle.std.proofs.Common.{◌≡◌, rules, ◌∙◌}
use Rattle.fabric.specs.Reserving.{among}
use Rattle.fabric.proofs.Scans.{among_any}
use Rattle.fabric.proofs.questions.hop_fits.Goals as goal

pub returns-then-port-count : goal.returns-then-port-count
returns-then-port-count c =
    let found : c.contains.result ≡ among c.args.port c.args.before.now = c.contains.ensures.value ∙ among_any c.args.port c.args.before.now in
    search rules
