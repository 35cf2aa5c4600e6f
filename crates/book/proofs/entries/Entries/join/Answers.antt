use Rattle.std.proofs.Common.{ℕ, ◌+◌, refl, sym, ap, ◌∙◌, arith}
use Rattle.table.specs.Slots.{bits}
use Rattle.book.specs.Entries.{Ranks}
use Rattle.book.specs.Moves.{whole_around}
use Rattle.book.proofs.Decided.{other_found}
use Rattle.book.proofs.Held.{beside_brother}
use Rattle.book.proofs.Moved.{turn, turned, joining_done}
use Rattle.book.proofs.entries.Entries.join.Goals as goal

pub loop-other-init : goal.loop-other-init
loop-other-init c = (c.requires.whole, c.requires.others, (bits, omega arith, refl))

pub exchange_sets-requires-clause-beside : goal.exchange_sets-requires-clause-beside
exchange_sets-requires-clause-beside c =
    let w = c.loop-other.whole in
    let o : ℕ = c.in-Some.other.index in
    beside_brother bits c.loop-other.self w.level o c.brother.result.index (other_found bits c.loop-other.self w.level w.index o (sym c.in-Some.ensures.found.1)).0.0 c.brother.ensures.index

pub exchange_sets-requires-clause-apart : goal.exchange_sets-requires-clause-apart
exchange_sets-requires-clause-apart c =
    let w = c.loop-other.whole in
    λ e. (turn bits _ c.loop-other.self w.level w.index c.in-Some.other.index c.in-Some.ensures.seated c.loop-other.invariant c.in-Some.ensures.found.1).apart (e ∙ c.brother.ensures.index)

pub doubled-around-requires : goal.doubled-around-requires
doubled-around-requires c =
    let w = c.loop-other.whole in
    let found = c.in-Some.ensures.found in
    omega (arith, found.0, (turn bits _ c.loop-other.self w.level w.index c.in-Some.other.index c.in-Some.ensures.seated c.loop-other.invariant found.1).low)

pub loop-other-smaller : goal.loop-other-smaller
loop-other-smaller c =
    let w = c.loop-other.whole in
    let o : ℕ = c.in-Some.other.index in
    let found = c.in-Some.ensures.found in
    let ys : Ranks = c.exchange_sets.new.self in
    let climbed = c.whole_around-whole.ensures ∙ ap (λ l. whole_around bits ys l c.doubled-around.result.index) (c.doubled-around.ensures.level ∙ ap (λ l. l + 1) found.0) ∙ ap (whole_around bits ys (w.level + 1)) c.doubled-around.ensures.index in
    let t = turned bits _ c.loop-other.self w.level w.index o c.in-Some.ensures.seated c.loop-other.invariant found.1 c.brother.result.index ys
    (c.whole_around-whole.result.level, c.whole_around-whole.result.index) c.brother.ensures.index c.exchange_sets.ensures climbed in
    omega (arith, t.0, c.whole_around-whole.result.low)

pub loop-other-preserved : goal.loop-other-preserved
loop-other-preserved c =
    let w = c.loop-other.whole in
    let o : ℕ = c.in-Some.other.index in
    let found = c.in-Some.ensures.found in
    let ys : Ranks = c.exchange_sets.new.self in
    let climbed = c.whole_around-whole.ensures ∙ ap (λ l. whole_around bits ys l c.doubled-around.result.index) (c.doubled-around.ensures.level ∙ ap (λ l. l + 1) found.0) ∙ ap (whole_around bits ys (w.level + 1)) c.doubled-around.ensures.index in
    (turned bits _ c.loop-other.self w.level w.index o c.in-Some.ensures.seated c.loop-other.invariant found.1 c.brother.result.index ys
    (c.whole_around-whole.result.level, c.whole_around-whole.result.index) c.brother.ensures.index c.exchange_sets.ensures climbed).1

pub returns : goal.returns
returns c =
    let w = c.loop-other.whole in
    joining_done bits _ c.loop-other.self w.level w.index (c.in_default.ensures.seated.sound, c.loop-other.invariant) (sym c.in_default.ensures.found)
