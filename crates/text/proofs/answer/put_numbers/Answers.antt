use Rattle.std.proofs.Common.{ℕ, List, sym, subst, arith}
use Rattle.std.proofs.lemmas.List.{at_drop_more}
use Rattle.text.specs.declared.put.Writer.{Writer}
use Rattle.text.specs.Answers.{numbers_text}
use Rattle.text.specs.Writers.{Writes}
use Rattle.text.proofs.Puts.{writes_then}
use Rattle.text.proofs.answer.put_numbers.Goals as goal

pub loop-n-preserved : goal.loop-n-preserved
loop-n-preserved c =
    let ns : List ℕ = c.args.numbers.now in
    let i : ℕ = c.loop-n.n-index in
    let line : Writer = c.loop-n.line in
    record {
      room = omega arith;
      rest = λ new w. c.loop-n.invariant.rest new (subst (Writes line new) (sym (at_drop_more numbers_text ns i 0 c.loop-n-test.true)) (writes_then (omega arith) c.put_number.ensures.text w));
    }
