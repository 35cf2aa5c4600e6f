use Rattle.std.proofs.Common.{ap, ◌∙◌}
use Rattle.table.specs.Slots.{bits}
use Rattle.book.specs.Bits.{held_bits}
use Rattle.book.proofs.Held.{around_is}
use Rattle.book.proofs.entries.Entries.whole_around.Goals as goal

pub returns : goal.returns
returns c =
    around_is bits c.args.self.now c.self.inside.held.bits (c.self.invariant.1 ∙ ap (held_bits bits) c.self.view_is)
    c.args.set.level c.args.set.index (c.whole_around.result.level, c.whole_around.result.index) c.whole_around.ensures
