use Rattle.std.proofs.Common.{◌≡◌, ℕ, ◌+◌, ◌-◌, Bool, cond, ltb, sym, ap, ◌∙◌, arith}
use Rattle.table.specs.declared.slot.Slot.{Slot}
use Rattle.table.specs.Slots.{bits}
use Rattle.book.proofs.Holders.{lays_more}
use Rattle.std.proofs.lemmas.Bool.{cond-true, cond-false, lt-ltb, le-ltb}
use Rattle.book.proofs.slots.lay_ranks.Goals as goal
use Rattle.book.proofs.slots.lay_ranks.Goals.{then-k-count, else-k-count}

pub loop-k-preserved : goal.loop-k-preserved
loop-k-preserved c =
    let what : ℕ → Slot = λ r. cond (ltb (r - c.args.first) c.args.count) c.args.below c.args.behind in
    let e : c.loop-k.k ≡ c.args.first + c.loop-k.k - c.args.first = omega arith in
    let test : Bool = ltb c.loop-k.k c.args.count in
    let slot : c.if-k-count.table ≡ cond test c.args.below c.args.behind = elim c.if-k-count.branch [
      | then-k-count w ↦ w.table-is ∙ sym (cond-true test c.args.below c.args.behind (lt-ltb c.loop-k.k c.args.count w.if-k-count.true))
      | else-k-count w ↦ w.table-is ∙ sym (cond-false test c.args.below c.args.behind (le-ltb c.loop-k.k c.args.count w.if-k-count.false))
    ] in
    lays_more bits c.args.table.now c.loop-k.table c.args.first c.loop-k.k c.reverse.result what c.if-k-count.table c.requires.long c.loop-k.invariant (omega (arith, c.loop-k-test.true))
    c.reverse.ensures.value (slot ∙ ap (λ k. cond (ltb k c.args.count) c.args.below c.args.behind) e)
