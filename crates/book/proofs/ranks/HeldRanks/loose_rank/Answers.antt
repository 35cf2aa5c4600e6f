use Rattle.std.proofs.Common.{◌/◌, ◌^◌, not, ◌&&◌, rules, tests}
use Rattle.table.specs.Slots.{bits}
use Rattle.book.specs.Bits.{free_bits}
use Rattle.book.proofs.Found.{last_is}
use Rattle.book.proofs.ranks.HeldRanks.loose_rank.Goals as goal

pub returns : goal.returns
returns c =
    let free = free_bits bits c.args.self.bits in
    last_is c.rev.result _ _ c.find.result (λ r. free 0 r && not (free c.args.level (r / 2 ^ c.args.level))) 64 c.rev.ensures.source c.find.ensures.ran (λ x b q k. search (rules, tests))
