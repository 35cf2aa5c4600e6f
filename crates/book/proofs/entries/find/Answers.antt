use Rattle.std.proofs.Common.{None, ◌∙◌, rules, tests}
use Rattle.std.proofs.lemmas.Iterator.{YieldsList-from_slice}
use Rattle.std.proofs.lemmas.Iterator.Search.{position_from_yields_List}
use Rattle.book.specs.Entries.{is_number}
use Rattle.book.proofs.Found.{position_is}
use Rattle.book.proofs.entries.find.Goals as goal

pub returns : goal.returns
returns c =
    let test = is_number c.args.number in
    position_from_yields_List test _ _ c.position.result c.position.ensures.ran (YieldsList-from_slice c.args.sessions.now cc) (λ x b q k. search (rules, tests))
    ∙ position_is test c.args.sessions.now None
