use Rattle.text.proofs.Ends.{sheet}
use Rattle.text.proofs.lines.lines.Goals as goal

pub returns-clause-again : goal.returns-clause-again
returns-clause-again c = sheet c.args.text.now
