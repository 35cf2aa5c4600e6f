use Rattle.std.proofs.Common.{◌≡◌, suc, ◌+◌, ◌^◌, eqb, refl, ap, ◌∙◌, arith, rules, tests}
use Rattle.table.specs.Slots.{bits}
use Rattle.book.specs.Searches.{first_from}
use Rattle.book.proofs.Found.{first_is}
use Rattle.book.proofs.rank_set.level_of.Goals as goal

pub returns : goal.returns
returns c =
    let e : bits + 1 ≡ suc bits = omega arith in
    first_is _ _ _ _ (λ i. eqb (2 ^ i) c.args.size) refl c.find.ensures.ran (λ x b q k. search (rules, tests))
    ∙ ap (first_from (λ i. eqb (2 ^ i) c.args.size) 0) e
