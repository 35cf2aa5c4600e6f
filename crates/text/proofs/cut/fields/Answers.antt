use Rattle.text.proofs.Cuts.{cut}
use Rattle.text.proofs.cut.fields.Goals as goal

pub returns-clause-cuts : goal.returns-clause-cuts
returns-clause-cuts c = cut c.args.line.now
