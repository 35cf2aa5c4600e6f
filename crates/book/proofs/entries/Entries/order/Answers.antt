use Rattle.std.proofs.Common.{◌≡◌, suc, ◌-◌, sym, ap, ◌∙◌, arith}
use Rattle.table.specs.Slots.{bits}
use Rattle.book.specs.Moves.{ordering}
use Rattle.book.proofs.entries.Entries.order.Goals as goal

pub loop-level-preserved : goal.loop-level-preserved
loop-level-preserved c =
    let e : c.loop-level.level ≡ suc (c.loop-level.level - 1) = omega (arith, c.loop-level-test.true) in
    c.loop-level.invariant ∙ ap (ordering bits c.loop-level.self) e ∙ ap (λ y. ordering bits y (c.loop-level.level - 1)) (sym c.order_level.ensures)

pub returns : goal.returns
returns c =
    let e : c.loop-level.level ≡ 0 = omega (arith, c.loop-level-test.false) in
    sym (c.loop-level.invariant ∙ ap (ordering bits c.loop-level.self) e)
