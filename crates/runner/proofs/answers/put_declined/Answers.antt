use Rattle.std.proofs.Common.{arith}
use Rattle.text.proofs.Puts.{writes_then}
use Rattle.runner.proofs.answers.put_declined.Goals as goal

pub returns : goal.returns
returns c =
    writes_then (omega arith) c.byte.ensures
    (writes_then (omega arith) (rw c.number.ensures at c.byte-2.ensures)
    (writes_then (omega arith) c.put_word.ensures
    (writes_then (omega arith) (rw c.layer_byte.ensures at c.byte-3.ensures) c.put_word-2.ensures)))
