use Rattle.std.proofs.Common.{◌∙◌, arith}
use Rattle.runner.proofs.Steps.{step_none, step_more}
use Rattle.runner.proofs.script.first_step.Goals as goal

pub returns-in-empty : goal.returns-in-empty
returns-in-empty c = step_none c.args.script.now (omega arith)

pub returns-in-len1-up : goal.returns-in-len1-up
returns-in-len1-up c = c.read_command.ensures ∙ step_more c.args.script.now (omega arith)
