use Rattle.std.proofs.Common.{◌≡◌, ◌≤◌, List, ◌∷◌, length, ap, ◌∙◌, arith, rules, length-take, true-eqb}
use Rattle.text.specs.declared.numbers.Given.{Given}
use Rattle.text.specs.Commands.{given, numbers_in}
use Rattle.text.specs.Cursor.{to_come}
use Rattle.text.specs.Sizes.{keep}
use Rattle.text.specs.Gathered.{items_of, kept}
use Rattle.text.specs.Tokens.{told}
use Rattle.text.proofs.Gathers.{turn, done, push_full}
use Rattle.text.proofs.gather.gather.Goals as goal

pub loop-field-preserved : goal.loop-field-preserved
loop-field-preserved c =
    let hs : List Given = items_of c.loop-field.numbers in
    let full : length hs ≡ keep = true-eqb (length hs) keep (search rules) in
    turn hs hs c.in-Number.value c.in-Number.place (to_come c.loop-field.field-iterator) (to_come c.next.new.self) (kept (numbers_in (to_come c.into_iter-field-iterator.result))) c.loop-field.invariant
    (c.in-Some.ensures.steps ∙ ap (λ f. told f ∷ to_come c.next.new.self) c.in-Number.is) (push_full hs (given c.in-Number.value c.in-Number.place) full)

pub returns : goal.returns
returns c =
    let long : length (items_of c.loop-field.numbers) ≤ keep = simp length-take (omega arith) in
    done (items_of c.loop-field.numbers) (to_come c.loop-field.field-iterator) (kept (numbers_in (to_come c.into_iter-field-iterator.result))) long c.loop-field.invariant c.in-None.ensures.steps.0
    ∙ ap (λ f. kept (numbers_in (to_come f))) c.into_iter-field-iterator.ensures.into_iter_gives
