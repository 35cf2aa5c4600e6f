use Rattle.std.proofs.Common.{leb, sym, ap, subst}
use Rattle.table.specs.Slots.{bits}
use Rattle.book.specs.Laws.{RoomLaw}
use Rattle.book.proofs.Keeping.{book_stands}
use Rattle.book.proofs.Held.{free_ranks_is}
use Rattle.book.proofs.Admits.{room_law}
use Rattle.book.proofs.book.Book.has_room.Goals as goal

pub returns : goal.returns
returns c =
    let b = c.args.self.now in
    let goal = c.args.need in
    let e = ap (leb goal) (free_ranks_is bits b.ranks b.held.bits b.taken c.free_count.result c.free_count.ensures) in
    record { value = e; even = subst (RoomLaw bits b.ranks goal) (sym e) (room_law bits b.ranks goal (book_stands b)) }
