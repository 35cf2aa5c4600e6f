use Rattle.std.proofs.Common.{arith}
use Rattle.text.proofs.Puts.{writes_then}
use Rattle.runner.proofs.answers.put_accepted.Goals as goal

pub returns-in-Some : goal.returns-in-Some
returns-in-Some c = rw c.in-Some.is (writes_then (omega arith) c.byte.ensures c.put_fields.ensures)
