use Rattle.std.proofs.Common.{ℕ, List, sym, subst, arith}
use Rattle.std.proofs.lemmas.List.{at_drop_more, at_drop_all}
use Rattle.text.specs.declared.put.Writer.{Writer}
use Rattle.text.specs.Writers.{Writes}
use Rattle.text.proofs.Puts.{writes_none, writes_then}
use Rattle.runner.specs.Bytes.{words}
use Rattle.runner.proofs.answers.put_words.Goals as goal

pub loop-n-preserved : goal.loop-n-preserved
loop-n-preserved c =
    let ns : List ℕ = c.args.numbers.now in
    let i : ℕ = c.loop-n.n-index in
    let line : Writer = c.loop-n.out in
    record {
      room = omega arith;
      rest = λ new w. c.loop-n.invariant.rest new (subst (Writes line new) (sym (at_drop_more words ns i 0 c.loop-n-test.true)) (writes_then (omega arith) c.put_word.ensures w));
    }

pub returns : goal.returns
returns c =
    let line : Writer = c.loop-n.out in
    c.loop-n.invariant.rest line (subst (Writes line line) (sym (at_drop_all words c.args.numbers.now c.loop-n.n-index c.loop-n-test.false)) (writes_none line))
