use Rattle.std.proofs.Common.{ap, ◌∙◌}
use Rattle.table.specs.Slots.{bits}
use Rattle.book.specs.Bits.{held_bits}
use Rattle.book.proofs.Held.{loose_is}
use Rattle.book.proofs.entries.Entries.loose_rank.Goals as goal

pub returns : goal.returns
returns c = loose_is bits c.args.self.now c.self.inside.held.bits (c.self.invariant.1 ∙ ap (held_bits bits) c.self.view_is) c.args.level c.loose_rank.result c.loose_rank.ensures
