use Rattle.std.proofs.Common.{Option, ℕ, refl, ap, ◌∙◌, subst}
use Rattle.table.specs.Slots.{bits}
use Rattle.book.specs.RankSets.{Found}
use Rattle.book.specs.Standing.{Seated}
use Rattle.book.specs.Bits.{held_bits}
use Rattle.book.proofs.Held.{other_is}
use Rattle.book.proofs.entries.Entries.other_whole.Goals as goal

pub returns : goal.returns
returns c = record {
  found = subst (λ (o : Option ℕ). Found c.args.level o c.other_whole.result)
      (other_is bits c.args.self.now c.self.inside.held.bits (c.self.invariant.1 ∙ ap (held_bits bits) c.self.view_is) c.args.level c.args.index _ refl) c.other_whole.ensures;
  seated = subst (Seated bits) c.self.view_is c.self.invariant.0;
}
