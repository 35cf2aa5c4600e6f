use Rattle.std.proofs.Common.{◌-◌, ◌*◌, ◌^◌, ap, ◌∙◌, arith}
use Rattle.book.proofs.Bits.{ones_shifts}
use Rattle.book.proofs.rank_set.RankSet.mask.Goals as goal

pub returns : goal.returns
returns c =
    ones_shifts c.size.result (64 - c.size.result) c.first.result 64 (omega (arith, c.size.ensures, c.args.self.within)) (omega (arith, c.size.ensures, c.first.ensures, c.args.self.within))
    ∙ ap (λ m. (2 ^ m - 1) * 2 ^ c.first.result) c.size.ensures
    ∙ ap (λ f. (2 ^ 2 ^ c.args.self.level - 1) * 2 ^ f) c.first.ensures
