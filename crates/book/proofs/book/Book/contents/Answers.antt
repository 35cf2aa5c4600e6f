use Rattle.std.proofs.Common.{sym, subst}
use Rattle.table.specs.Slots.{bits}
use Rattle.book.proofs.Keeping.{book_stands}
use Rattle.book.proofs.Spots.{placed_law}
use Rattle.book.specs.Laws.{PlacedLaw}
use Rattle.book.proofs.book.Book.contents.Goals as goal

pub slots_of-requires : goal.slots_of-requires
slots_of-requires c = book_stands c.args.self.now

pub returns : goal.returns
returns c =
    let b = c.args.self.now in
    let h = book_stands b in
    record {
      value = c.slots_of.ensures;
      placed = subst (PlacedLaw bits b.ranks) (sym c.slots_of.ensures) (placed_law bits b.ranks h);
      standing = h;
    }
