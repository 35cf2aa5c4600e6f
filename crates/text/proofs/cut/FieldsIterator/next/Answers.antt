use Rattle.std.proofs.Common.{ℕ, ◌-◌, List, length, take, drop, rules}
use Rattle.std.proofs.lemmas.List.{take_rest}
use Rattle.text.specs.Tokens.{told}
use Rattle.text.proofs.Cuts.{step_more, step_last}
use Rattle.text.proofs.cut.FieldsIterator.next.Goals as goal
use Rattle.text.proofs.cut.FieldsIterator.next.Goals.{then-n-rest, else-n-rest}

pub returns-clause-steps : goal.returns-clause-steps
returns-clause-steps c =
    let line : List ℕ = c.args.self.now.line.now in
    let at : ℕ = c.in_ok-at.at in
    let n : ℕ = c.bytes_before-n.result in
    let rest : List ℕ = take (length line - at) (drop at line) in
    elim c.if-n-rest.branch [ then-n-rest w ↦ step_more line rest _ _ (told c.read_field.result) at n (search rules) (take_rest line at) c.bytes_before-n.ensures.value w.if-n-rest.true c.read_field.ensures w.self-is | else-n-rest w ↦ step_last line rest _ _ (told c.read_field.result) at n (search rules) (take_rest line at) c.bytes_before-n.ensures.value c.bytes_before-n.ensures.within w.if-n-rest.false c.read_field.ensures w.self-is ]
