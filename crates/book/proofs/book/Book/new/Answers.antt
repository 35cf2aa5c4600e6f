use Rattle.std.proofs.Common.{sym}
use Rattle.table.specs.Slots.{bits}
use Rattle.book.specs.Books.{empty_ranks}
use Rattle.book.proofs.Tested.{tested}
use Rattle.book.proofs.Held.{empty_bits}
use Rattle.book.proofs.Keeping.{empty_stands}
use Rattle.book.proofs.book.Book.new.Goals as goal

pub invariant_of-result : goal.invariant_of-result
invariant_of-result c =
    let t = tested bits (empty_ranks bits) (empty_stands bits) in
    record { long = t.long; fit = t.fit; sets = t.sets; apart = t.apart; single = t.once; ordered = t.ordered; taken = sym (empty_bits bits) }
