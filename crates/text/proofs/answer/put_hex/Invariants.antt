use Rattle.std.proofs.Common.{◌+◌, ◌-◌, ◌*◌, ◌≤◌, length, drop}
use Rattle.text.specs.declared.put.Writer.{Writer}
use Rattle.text.specs.Answers.{hex_text}
use Rattle.text.specs.Writers.{Writes}
use Rattle.text.proofs.answer.put_hex.Given as goal

abbrev pub invariant-loop-byte : goal.invariant-loop-byte
invariant-loop-byte l = record {
  room : l.line.at + 2 * (length l.bytes - l.byte-index) ≤ length l.line.out.now;
  rest : (new : Writer) → Writes l.line new (hex_text (drop l.byte-index l.bytes)) → Writes l.initial.line new (hex_text l.bytes);
}
