use Rattle.text.proofs.Digits.{spells}
use Rattle.text.proofs.number.number.Goals as goal

pub returns-clause-spells : goal.returns-clause-spells
returns-clause-spells c = spells c.args.text.now c.spelled.result c.spelled.ensures
