use Rattle.text.specs.Told.{answered}
use Rattle.text.proofs.Readings.{reads}
use Rattle.text.proofs.parse.parse.Goals as goal

pub returns-clause-reads : goal.returns-clause-reads
returns-clause-reads c = reads c.args.line.now (answered c.read_command.result) c.read_command.ensures
