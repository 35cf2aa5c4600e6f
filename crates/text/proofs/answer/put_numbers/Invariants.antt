use Rattle.std.proofs.Common.{◌+◌, ◌-◌, ◌*◌, ◌≤◌, length, drop}
use Rattle.text.specs.declared.put.Writer.{Writer}
use Rattle.text.specs.Answers.{numbers_text}
use Rattle.text.specs.Writers.{Writes}
use Rattle.text.proofs.answer.put_numbers.Given as goal

abbrev pub invariant-loop-n : goal.invariant-loop-n
invariant-loop-n l = record {
  room : l.line.at + 21 * (length l.numbers - l.n-index) + 1 ≤ length l.line.out.now;
  rest : (new : Writer) → Writes l.line new (numbers_text (drop l.n-index l.numbers)) → Writes l.initial.line new (numbers_text l.numbers);
}
