use Rattle.std.proofs.Common.{◌-◌, ◌/◌, ◌^◌, ap, ◌∙◌, arith}
use Rattle.book.specs.Bits.{part}
use Rattle.book.proofs.Bits.{part_shifts}
use Rattle.book.proofs.ranks.HeldRanks.part.Goals as goal

pub returns : goal.returns
returns c =
    part_shifts (c.args.self.bits / 2 ^ c.first.result) c.size-others.result (64 - c.size-others.result) 64 (omega (arith, c.size-others.ensures, c.args.set.within))
    ∙ ap (part c.args.self.bits c.first.result) c.size-others.ensures
    ∙ ap (λ f. part c.args.self.bits f (2 ^ c.args.set.level)) c.first.ensures
