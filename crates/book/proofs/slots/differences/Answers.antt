use Rattle.std.proofs.Common.{◌∙◌, rules, tests}
use Rattle.std.proofs.lemmas.Iterator.{YieldsList-from_slice, YieldsList-from_zip}
use Rattle.std.proofs.lemmas.Iterator.Consumers.{YieldsList-at, YieldsList-from_filter, count_from_yields_List}
use Rattle.table.specs.declared.slot.Slot.{Slot}
use Rattle.book.specs.Slots.{differ}
use Rattle.book.proofs.Counted.{changed_zip}
use Rattle.book.proofs.slots.differences.Goals as goal

pub returns : goal.returns
returns c =
    let old = c.args.old.now in
    let new = c.args.new.now in
    count_from_yields_List c.filter.result _ c.count.ensures.ran
    (YieldsList-from_filter _ (λ (p : Slot × Slot). differ p.0 p.1) (YieldsList-at c.filter.ensures.source (YieldsList-from_zip (YieldsList-at c.zip.ensures.first (YieldsList-from_slice old cc)) (YieldsList-from_slice new cc))) c.filter.ensures.closure (λ x b q k. search (rules, tests)))
    ∙ changed_zip old new
