use Rattle.std.proofs.Common.{◌≡◌, ◌-◌, sym, subst, refl, ap, ◌∙◌, rules}
use Rattle.std.specs.List.{find, range_with_len}
use Rattle.std.proofs.lemmas.Iterator.{YieldsList-from_range}
use Rattle.std.proofs.lemmas.Iterator.Adapters.{option_map_id}
use Rattle.std.proofs.lemmas.Iterator.Search.{find_from_yields_List}
use Rattle.lanes.specs.Captures.{record_count, is_for, Finds}
use Rattle.lanes.proofs.Finding.{finds}
use Rattle.lanes.proofs.capture.find.Goals as goal

pub returns : goal.returns
returns c =
    let bs = c.args.bytes.now in
    let from = c.args.from in
    let test = is_for bs c.args.lane in
    let count : c.in_ok-count.count ≡ record_count bs = search rules in
    let is : c.find.result ≡ find test (range_with_len from (c.in_ok-count.count - from)) =
    sym (option_map_id c.find.result)
    ∙ find_from_yields_List test _ _ c.find.result c.find.ensures.ran (YieldsList-from_range from c.in_ok-count.count (c.in_ok-count.count - from) refl refl) (λ x b q k. search rules) in
    subst (Finds bs from c.args.lane) (sym (is ∙ ap (λ n. find test (range_with_len from (n - from))) count)) (finds bs c.args.lane from)
