use Rattle.std.proofs.Common.{not, eqb, is_some, sym, ap, ◌∙◌}
use Rattle.table.specs.Slots.{bits}
use Rattle.book.proofs.Keeping.{book_stands}
use Rattle.book.proofs.Held.{none_held}
use Rattle.book.proofs.Numbers.{place_holds}
use Rattle.book.proofs.book.Book.holds.Goals as goal

pub returns-then-self-ne0 : goal.returns-then-self-ne0
returns-then-self-ne0 c = c.is_some.ensures ∙ ap is_some c.find.ensures ∙ place_holds c.args.number c.args.self.now.ranks

pub returns-else-self-ne0 : goal.returns-else-self-ne0
returns-else-self-ne0 c =
    let b = c.args.self.now in
    ap (λ x. not (eqb x 0)) c.if-self-ne0.false ∙ none_held bits c.args.number b.ranks (book_stands b) (sym c.if-self-ne0.false ∙ b.taken)
