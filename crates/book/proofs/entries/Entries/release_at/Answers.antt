use Rattle.std.proofs.Common.{◌∙◌}
use Rattle.table.specs.Slots.{bits}
use Rattle.book.proofs.Keeping.{released_level, released_odd}
use Rattle.book.proofs.entries.Entries.release_at.Goals as goal

pub returns-in-Some : goal.returns-in-Some
returns-in-Some c = c.release_set.ensures ∙ released_level bits c.args.self.now c.args.at c.in-Some.level c.in-Some.ensures

pub returns-in_default : goal.returns-in_default
returns-in_default c = released_odd bits c.args.self.now c.args.at c.in_default.ensures
