use Rattle.std.proofs.Common.{sym}
use Rattle.table.specs.Slots.{bits}
use Rattle.book.proofs.Decided.{other_found, loose_found}
use Rattle.book.proofs.Held.{beside_rank}
use Rattle.book.proofs.entries.Entries.order_level.Goals as goal

pub around-loose-requires-clause-rank : goal.around-loose-requires-clause-rank
around-loose-requires-clause-rank c = (loose_found bits c.args.self.now c.args.level c.in-Some-loose_rank.rank c.in-Some-loose_rank.ensures).0.0.0

pub exchange_sets-requires-clause-free : goal.exchange_sets-requires-clause-free
exchange_sets-requires-clause-free c =
    let found = c.in-Some.ensures.found in
    rw found.0 (other_found bits c.args.self.now c.args.level 64 c.in-Some.whole.index (sym found.1)).0.0

pub exchange_sets-requires-clause-beside : goal.exchange_sets-requires-clause-beside
exchange_sets-requires-clause-beside c =
    let xs = c.args.self.now in
    let rank = c.in-Some-loose_rank in
    let r = loose_found bits xs c.args.level rank.rank rank.ensures in
    rw c.in-Some.ensures.found.0 (beside_rank bits xs c.args.level rank.rank c.around-loose.result.index r.0.0 c.around-loose.ensures.index)
