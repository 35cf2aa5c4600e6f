use Rattle.std.proofs.Common.{arith}
use Rattle.text.proofs.Puts.{go_on, length_hex}
use Rattle.text.proofs.answer.write_ok_image.Goals as goal

pub byte-requires : goal.byte-requires
byte-requires c = omega (arith, length_hex c.args.image.now)

pub returns : goal.returns
returns c = go_on (omega arith) c.bytes.ensures.text (go_on (omega arith) c.put_hex.ensures.text c.byte.ensures.text)
