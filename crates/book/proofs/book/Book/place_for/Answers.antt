use Rattle.std.proofs.Common.{is_some, sym, ap, ◌∙◌}
use Rattle.table.specs.Slots.{bits}
use Rattle.book.proofs.Held.{put_on}
use Rattle.book.proofs.Placed.{place_unfit, place_known}
use Rattle.book.proofs.book.Book.place_for.Goals as goal
use Rattle.book.proofs.book.Book.place_for.Goals.{then-not-fits-via-then-not-fits, then-not-fits-via-else-not-fits+then-is_some}

pub returns-then-not-fits : goal.returns-then-not-fits
returns-then-not-fits c =
    elim c.then-not-fits.branch [
      | then-not-fits-via-then-not-fits w ↦ sym (place_unfit bits c.args.self.now.ranks c.args.session (sym c.fits.ensures ∙ w.if-not-fits.true))
      | then-not-fits-via-else-not-fits+then-is_some w ↦ sym (place_known bits c.args.self.now.ranks c.args.session (ap is_some (sym w.find.ensures) ∙ sym w.is_some.ensures ∙ w.if-is_some.true))
    ]

pub returns : goal.returns
returns c =
    put_on bits c.args.self.now.ranks c.args.self.now.held.bits c.args.self.now.taken c.args.session c.in_ok-level_of.field-0 c.lowest.result
    (sym c.fits.ensures ∙ c.if-not-fits.false) (ap is_some (sym c.find.ensures) ∙ sym c.is_some.ensures ∙ c.if-is_some.false) c.in_ok-level_of.ensures c.lowest.ensures
