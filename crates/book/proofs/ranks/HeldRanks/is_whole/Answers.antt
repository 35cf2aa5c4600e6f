use Rattle.std.proofs.Common.{suc, ◌/◌, not, sym, ◌∙◌, arith}
use Rattle.std.proofs.lemmas.Bool.{and_from, eq-eqb, not_from_false}
use Rattle.table.specs.Slots.{bits}
use Rattle.book.specs.Bits.{free_bits}
use Rattle.book.proofs.Held.{none_above}
use Rattle.book.proofs.ranks.HeldRanks.is_whole.Goals as goal

pub returns-then-set-eq-BITS : goal.returns-then-set-eq-BITS
returns-then-set-eq-BITS c =
    let s = c.args.set in
    let up = free_bits bits c.args.self.bits (suc s.level) (s.index / 2) in
    eq-eqb s.level 6 c.if-set-eq-BITS.true
    ∙ sym (and_from (free_bits bits c.args.self.bits s.level s.index) (not up) (sym c.is_free.ensures ∙ c.if-is_free.true)
    (not_from_false up (none_above bits c.args.self.bits (suc s.level) (s.index / 2) (omega (arith, c.if-set-eq-BITS.true)))))
