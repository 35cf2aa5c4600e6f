use Rattle.std.proofs.Common.{◌≡◌, ◌+◌, ◌/◌, true, false, sym, ap, ◌∙◌, arith}
use Rattle.table.specs.Slots.{bits}
use Rattle.book.specs.FreeSets.{around_by}
use Rattle.book.specs.Bits.{free_bits}
use Rattle.book.proofs.Decided.{climb_more, climb_stop}
use Rattle.book.proofs.ranks.HeldRanks.whole_around.Goals as goal

pub loop-whole-preserved : goal.loop-whole-preserved
loop-whole-preserved c =
    let free = free_bits bits c.args.self.bits in
    let i = c.loop-whole.whole.level in
    let q = c.loop-whole.whole.index in
    let d = c.doubled.result in
    let w = c.doubled-whole.result in
    let test : free (i + 1) (q / 2) ≡ true = sym (c.is_free.ensures ∙ ap (λ l. free l d.index) c.doubled.ensures.level ∙ ap (free (i + 1)) c.doubled.ensures.index) ∙ c.if-is_free.true in
    c.loop-whole.invariant ∙ climb_more free bits i q (omega (arith, c.loop-whole-test.true)) test
    ∙ sym (ap (λ l. around_by bits free l w.index) c.doubled-whole.ensures.level ∙ ap (around_by bits free (i + 1)) c.doubled-whole.ensures.index)

pub returns-else-is_free : goal.returns-else-is_free
returns-else-is_free c =
    let free = free_bits bits c.args.self.bits in
    let i = c.loop-whole.whole.level in
    let q = c.loop-whole.whole.index in
    let d = c.doubled.result in
    let test : free (i + 1) (q / 2) ≡ false = sym (c.is_free.ensures ∙ ap (λ l. free l d.index) c.doubled.ensures.level ∙ ap (free (i + 1)) c.doubled.ensures.index) ∙ c.if-is_free.false in
    sym (c.loop-whole.invariant ∙ climb_stop free bits i q (omega (arith, c.loop-whole-test.true)) test)
