use Rattle.std.proofs.Common.{◌≡◌, ℕ, ◌+◌, ◌-◌, ◌<◌, List, length, take, drop, ap, ◌∙◌, arith, false-eqb}
use Rattle.std.proofs.lemmas.List.{take_rest}
use Rattle.text.specs.Lines.{feed_after}
use Rattle.text.proofs.Ends.{lines_split, next_line}
use Rattle.text.proofs.lines.first_line.Goals as goal

pub returns-clause-lines : goal.returns-clause-lines
returns-clause-lines c =
    let bs : List ℕ = c.args.text.now in
    let n : ℕ = c.bytes_before-n.result in
    let is : n ≡ feed_after bs = c.bytes_before-n.ensures.value in
    let same : n - 0 ≡ feed_after bs = omega arith in
    let some : 0 < length bs = omega (arith, false-eqb (length bs) 0 c.if-is_empty.ensures) in
    let line : take (n - 0) bs ≡ take (feed_after bs) bs = ap (λ k. take k bs) same in
    let rest : take (length bs - c.min-next.result) (drop c.min-next.result bs) ≡ drop (feed_after bs + 1) bs = take_rest bs c.min-next.result ∙ next_line bs c.min-next.result (omega arith) in
    lines_split bs _ _ line rest (omega arith) some
