use Rattle.std.proofs.Common.{arith}
use Rattle.std.proofs.lemmas.Fmt.{length-decimal-le}
use Rattle.text.proofs.Puts.{writes_then}
use Rattle.text.proofs.answer.put_number.Goals as goal

pub decimal-requires : goal.decimal-requires
decimal-requires c = omega (arith, length-decimal-le 20 c.args.n (omega arith) (omega arith) (omega arith))

pub returns : goal.returns
returns c = record {
  text = writes_then (omega arith) c.byte.ensures c.decimal.ensures;
  within = omega (arith, length-decimal-le 20 c.args.n (omega arith) (omega arith) (omega arith));
}
