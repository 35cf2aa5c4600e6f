use Rattle.std.proofs.Common.{is_some, sym, ap, ◌∙◌, subst, arith}
use Rattle.table.specs.Slots.{bits}
use Rattle.book.specs.Bits.{held_bits}
use Rattle.book.specs.Books.{released_at}
use Rattle.book.specs.Laws.{Ended}
use Rattle.book.specs.Standing.{Standing}
use Rattle.book.proofs.Numbers.{place_holds}
use Rattle.book.proofs.Tested.{tested}
use Rattle.book.proofs.Keeping.{book_stands, number_found, released_at_lem, released_none, released_stands, release_law}
use Rattle.book.proofs.book.Book.release.Goals as goal

pub returns-in_default : goal.returns-in_default
returns-in_default c =
    let xs = c.args.self.now.ranks in
    let number = c.args.number in
    let place = c.in_default.ensures in
    let after = released_none bits xs number place in
    record {
      value = ap is_some place ∙ place_holds number xs;
      after = after;
      law = subst (Ended bits xs number) (sym after) (release_law bits xs number (book_stands c.args.self.now));
    }

pub of-entries-requires-clause-seated : goal.of-entries-requires-clause-seated
of-entries-requires-clause-seated c = let h = book_stands c.args.self.now in record { long = h.long; sound = h.sound }

pub release_at-requires-clause-stands : goal.release_at-requires-clause-stands
release_at-requires-clause-stands c = subst (Standing bits) (sym c.of-entries.ensures) (book_stands c.args.self.now)

pub release_at-requires-clause-there : goal.release_at-requires-clause-there
release_at-requires-clause-there c =
    let b = c.args.self.now in
    omega (arith, (number_found c.args.number b.ranks c.in-Some.at c.in-Some.ensures).3, b.long)

pub invariant_of-self-2 : goal.invariant_of-self-2
invariant_of-self-2 c =
    let b = c.args.self.now in
    let after = c.sessions.ensures ∙ c.release_at.ensures ∙ ap (λ xs. released_at bits xs c.in-Some.at) c.of-entries.ensures ∙ released_at_lem bits b.ranks c.args.number c.in-Some.at c.in-Some.ensures in
    let t = tested bits c.sessions.result.now (subst (Standing bits) (sym after) (released_stands bits b.ranks c.args.number (book_stands b))) in
    record {
      long = t.long;
      fit = t.fit;
      sets = t.sets;
      apart = t.apart;
      single = t.once;
      ordered = t.ordered;
      taken = c.held.ensures ∙ ap (held_bits bits) (sym c.sessions.ensures);
    }

pub returns : goal.returns
returns c =
    let b = c.args.self.now in
    let number = c.args.number in
    let place = c.in-Some.ensures in
    let after = c.sessions.ensures ∙ c.release_at.ensures ∙ ap (λ xs. released_at bits xs c.in-Some.at) c.of-entries.ensures ∙ released_at_lem bits b.ranks number c.in-Some.at place in
    record {
      value = ap is_some place ∙ place_holds number b.ranks;
      after = after;
      law = subst (Ended bits b.ranks number) (sym after) (release_law bits b.ranks number (book_stands b));
    }
