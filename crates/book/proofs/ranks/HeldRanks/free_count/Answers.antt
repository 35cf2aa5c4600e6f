use Rattle.std.proofs.Common.{◌∙◌, rules}
use Rattle.table.specs.Slots.{bits}
use Rattle.book.proofs.Counted.{zeros_free}
use Rattle.book.proofs.ranks.HeldRanks.free_count.Goals as goal

pub returns : goal.returns
returns c = c.count_zeros.ensures.value ∙ zeros_free bits c.args.self.bits (search rules)
