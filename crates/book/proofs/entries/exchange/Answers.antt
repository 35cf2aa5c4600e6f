use Rattle.std.proofs.Common.{◌≡◌, None, subst, arith}
use Rattle.book.proofs.Views.{Swapped}
use Rattle.book.proofs.Blocks.{swapped_more}
use Rattle.book.proofs.Decided.{swapped_is}
use Rattle.book.proofs.entries.exchange.Goals as goal

pub loop-k-preserved : goal.loop-k-preserved
loop-k-preserved c =
    let p = c.swap.ensures.by_index in
    swapped_more c.args.f c.args.g c.args.size c.loop-k.k c.args.sessions.now c.loop-k.sessions c.swap.new.self
    c.requires.apart (omega arith) c.loop-k.invariant c.swap.ensures.len (p.0 None) (p.1 None) (λ r u v. p.2 r None u v)

pub returns : goal.returns
returns c =
    let e : c.loop-k.k ≡ c.args.size = omega arith in
    swapped_is c.args.sessions.now c.args.f c.args.g c.args.size c.requires.apart c.loop-k.sessions
    (subst (λ m. Swapped c.args.f c.args.g m c.args.sessions.now c.loop-k.sessions) e c.loop-k.invariant)
