use Rattle.std.proofs.Common.{true, false, length, Err, refl, sym, ap, ◌∙◌}
use Rattle.std.proofs.lemmas.Option.{slice_get_read}
use Rattle.fabric.proofs.Scans.{each_stop, each_go}
use Rattle.fabric.proofs.questions.ask_each.Goals as goal

pub returns-then-not-question : goal.returns-then-not-question
returns-then-not-question g c test decline answers declines =
    let list = c.args.list.now in
    let place = c.loop-place.place in
    let item = c.index-list-place in
    let there = slice_get_read list (length list) place item.result refl c.loop-place-test.true item.is in
    ap Err (declines place c.declined.result c.declined.ensures)
    ∙ each_stop test decline list place item.result c.loop-place-test.true (ap (test place) (sym item.is) ∙ sym (answers place _ false there c.if-not-question.ensures))
    (c.loop-place.invariant test decline answers)

pub loop-place-preserved : goal.loop-place-preserved
loop-place-preserved g c test decline answers =
    let list = c.args.list.now in
    let place = c.loop-place.place in
    let item = c.index-list-place in
    let there = slice_get_read list (length list) place item.result refl c.loop-place-test.true item.is in
    each_go test decline list place item.result c.loop-place-test.true (ap (test place) (sym item.is) ∙ sym (answers place _ true there c.if-not-question.ensures))
    (c.loop-place.invariant test decline answers)
