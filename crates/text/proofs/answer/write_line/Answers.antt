use Rattle.std.proofs.Common.{arith}
use Rattle.text.proofs.Puts.{go_on}
use Rattle.text.proofs.answer.write_line.Goals as goal

pub returns : goal.returns
returns c = go_on (omega arith) c.bytes.ensures.text c.put_numbers.ensures.text
