use Rattle.std.proofs.Common.{◌≡◌, ℕ, ◌*◌, ◌^◌, set, None, sym, ap, ◌∙◌}
use Rattle.table.specs.Slots.{bits}
use Rattle.book.specs.Entries.{Ranks, size_at}
use Rattle.book.specs.Moves.{whole_around}
use Rattle.book.proofs.Steps.{session_at}
use Rattle.book.proofs.Moved.{set_first, released_from, released_to}
use Rattle.book.proofs.entries.Entries.release_set.Goals as goal

pub around-set-requires-clause-low : goal.around-set-requires-clause-low
around-set-requires-clause-low c = (session_at bits c.args.self.now c.args.at c.args.level c.requires.stands.sound c.requires.size).3

pub remove-requires : goal.remove-requires
remove-requires c =
    let xs = c.args.self.now in
    let j : ℕ = c.args.level in
    let s = c.around-set in
    let first : s.result.index * 2 ^ s.result.level ≡ c.args.at = ap (λ l. s.result.index * 2 ^ l) s.ensures.level ∙ ap (λ q. q * 2 ^ j) s.ensures.index ∙ set_first bits xs c.args.at j c.requires.stands.sound c.requires.size in
    ap (size_at xs) first ∙ c.requires.size ∙ ap (λ l. 2 ^ l) (sym s.ensures.level)

pub join-requires : goal.join-requires
join-requires c =
    let xs = c.args.self.now in
    let j : ℕ = c.args.level in
    let s = c.around-set in
    let ys : Ranks = c.remove.new.self in
    let first : s.result.index * 2 ^ s.result.level ≡ c.args.at = ap (λ l. s.result.index * 2 ^ l) s.ensures.level ∙ ap (λ q. q * 2 ^ j) s.ensures.index ∙ set_first bits xs c.args.at j c.requires.stands.sound c.requires.size in
    let climbed = c.whole_around-start.ensures ∙ ap (λ l. whole_around bits ys l s.result.index) s.ensures.level ∙ ap (whole_around bits ys j) s.ensures.index in
    let t = released_from bits xs j c.args.at ys (c.whole_around-start.result.level, c.whole_around-start.result.index) (c.remove.ensures ∙ ap (λ f. set xs f None) first) climbed c.requires.stands c.requires.size in
    record { whole = t.0; others = t.1 }

pub returns : goal.returns
returns c =
    let xs = c.args.self.now in
    let j : ℕ = c.args.level in
    let s = c.around-set in
    let ys : Ranks = c.remove.new.self in
    let first : s.result.index * 2 ^ s.result.level ≡ c.args.at = ap (λ l. s.result.index * 2 ^ l) s.ensures.level ∙ ap (λ q. q * 2 ^ j) s.ensures.index ∙ set_first bits xs c.args.at j c.requires.stands.sound c.requires.size in
    let climbed = c.whole_around-start.ensures ∙ ap (λ l. whole_around bits ys l s.result.index) s.ensures.level ∙ ap (whole_around bits ys j) s.ensures.index in
    released_to bits xs j c.args.at ys (c.whole_around-start.result.level, c.whole_around-start.result.index) (c.remove.ensures ∙ ap (λ f. set xs f None) first) climbed c.join.new.self c.order.new.self c.join.ensures c.order.ensures
