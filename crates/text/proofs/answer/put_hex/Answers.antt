use Rattle.std.proofs.Common.{◌≡◌, ℕ, ◌+◌, List, ◌∷◌, drop, sym, ◌∙◌, subst, arith}
use Rattle.std.proofs.lemmas.List.{at_drop_more, at_drop_all}
use Rattle.text.specs.declared.put.Writer.{Writer}
use Rattle.text.specs.Answers.{hex_text}
use Rattle.text.specs.Writers.{Writes}
use Rattle.text.proofs.Puts.{writes_none, writes_then}
use Rattle.text.proofs.answer.put_hex.Goals as goal

pub loop-byte-preserved : goal.loop-byte-preserved
loop-byte-preserved c =
    let bs : List ℕ = c.args.bytes.now in
    let i : ℕ = c.loop-byte.byte-index in
    let line : Writer = c.loop-byte.line in
    let high : ℕ = c.hex_digit.result in
    let low : ℕ = c.hex_digit-in-loop-byte.result in
    let text : hex_text (drop i bs) ≡ high ∷ low ∷ hex_text (drop (i + 1) bs) =
    at_drop_more hex_text bs i 0 c.loop-byte-test.true ∙ (λ j. sym c.hex_digit.ensures j ∷ sym c.hex_digit-in-loop-byte.ensures j ∷ hex_text (drop (i + 1) bs)) in
    record {
      room = omega arith;
      rest = λ new w. c.loop-byte.invariant.rest new (subst (Writes line new) (sym text) (writes_then (omega arith) c.bytes.ensures w));
    }

pub returns : goal.returns
returns c =
    let line : Writer = c.loop-byte.line in
    c.loop-byte.invariant.rest line (subst (Writes line line) (sym (at_drop_all hex_text c.args.bytes.now c.loop-byte.byte-index c.loop-byte-test.false)) (writes_none line))
