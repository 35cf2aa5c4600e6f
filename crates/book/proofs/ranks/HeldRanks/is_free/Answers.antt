use Rattle.std.proofs.Common.{◌*◌, ◌^◌, eqb, refl, ap, ◌∙◌}
use Rattle.table.specs.Slots.{bits}
use Rattle.book.proofs.Held.{free_is}
use Rattle.book.proofs.ranks.HeldRanks.is_free.Goals as goal

pub returns : goal.returns
returns c =
    let s = c.args.set in
    ap (λ x. eqb x 0) c.part.ensures ∙ free_is bits c.args.self.bits s.level s.index (s.index * 2 ^ s.level) (2 ^ s.level) s.within refl refl
