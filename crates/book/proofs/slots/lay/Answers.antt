use Rattle.std.proofs.Common.{◌-◌, ◌%◌, cond, ltb, Some, ap, arith}
use Rattle.book.specs.Slots.{slot_for}
use Rattle.table.specs.Slots.{bits}
use Rattle.book.proofs.Holders.{lays_like, share_is}
use Rattle.book.proofs.slots.lay.Goals as goal

pub returns : goal.returns
returns c =
    let s = c.args.session in
    let f = c.args.first in
    lays_like bits c.args.table.now c.lay_ranks.new.table f s.size (λ r. cond (ltb (r - f) (c.grant.result % s.size)) c.slot_for-heavy.result c.slot_for-light.result) (λ r. slot_for r (Some s))
    (λ r u v. share_is s f r (c.grant.result % s.size) c.slot_for-heavy.result c.slot_for-light.result (omega arith) c.requires.set u v (ap (λ g. g % s.size) c.grant.ensures)
    c.slot_for-heavy.ensures c.slot_for-light.ensures)
    c.lay_ranks.ensures
