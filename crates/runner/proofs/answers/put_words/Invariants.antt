use Rattle.std.proofs.Common.{◌+◌, ◌-◌, ◌*◌, ◌≤◌, length, drop}
use Rattle.text.specs.declared.put.Writer.{Writer}
use Rattle.text.specs.Writers.{Writes}
use Rattle.runner.specs.Bytes.{words}
use Rattle.runner.proofs.answers.put_words.Given as goal

abbrev pub invariant-loop-n : goal.invariant-loop-n
invariant-loop-n l = record {
  room : l.out.at + 4 * (length l.numbers - l.n-index) ≤ length l.out.out.now;
  rest : (new : Writer) → Writes l.out new (words (drop l.n-index l.numbers)) → Writes l.initial.out new (words l.numbers);
}
